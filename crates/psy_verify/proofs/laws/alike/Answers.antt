-- What is left of the proof of `laws::alike`.
use Rattle.psy_verify.proofs.Likeness.{alike}
use Rattle.psy_verify.proofs.laws.alike.Goals as goal

pub returns : goal.returns
returns c = alike
