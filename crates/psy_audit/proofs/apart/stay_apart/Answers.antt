-- What is left of the proof of `apart::stay_apart`.
use Rattle.psy_audit.proofs.Nearest.{apart_more}
use Rattle.psy_audit.proofs.apart.stay_apart.Goals as goal

pub returns-then-apart : goal.returns-then-apart
returns-then-apart c = λ old is. apart_more c.args.list.now c.args.wait.now (old c.if-apart.true) (c.comes_behind.ensures is)
