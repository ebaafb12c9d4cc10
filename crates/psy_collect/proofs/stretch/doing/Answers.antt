-- What is left of the proof of `stretch::doing`.
use Rattle.std.proofs.Common.{None}
use Rattle.psy_collect.proofs.Rows.{get_or_none}
use Rattle.psy_collect.proofs.stretch.doing.Goals as goal

pub returns-in-None : goal.returns-in-None
returns-in-None c = get_or_none c.args.acts.now c.args.agent None c.in-None.ensures.value
