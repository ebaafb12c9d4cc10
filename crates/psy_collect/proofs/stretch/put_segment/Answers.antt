-- What is left of the proof of `stretch::put_segment`.
use Rattle.std.proofs.Common.{Some}
use Rattle.psy_collect.proofs.Rows.{set_none}
use Rattle.psy_collect.proofs.stretch.put_segment.Goals as goal

pub returns-in-None : goal.returns-in-None
returns-in-None c = set_none c.args.segments.now c.args.processor (Some c.args.segment) c.in-None.ensures.value
