-- What is left of the proof of `stretch::put_act`.
use Rattle.std.proofs.Common.{Some}
use Rattle.psy_collect.proofs.Rows.{set_none}
use Rattle.psy_collect.proofs.stretch.put_act.Goals as goal

pub returns-in-None : goal.returns-in-None
returns-in-None c = set_none c.args.acts.now c.args.act.agent (Some c.args.act) c.in-None.ensures.value
