-- What is left of the proof of `stretch::serving`.
use Rattle.std.proofs.Common.{None}
use Rattle.psy_collect.proofs.Rows.{get_or_none}
use Rattle.psy_collect.proofs.stretch.serving.Goals as goal

pub returns-in-None : goal.returns-in-None
returns-in-None c = get_or_none c.args.segments.now c.args.processor None c.in-None.ensures.value
