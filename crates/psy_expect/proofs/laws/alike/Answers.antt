-- What is left of the proof of `laws::alike`.
use Rattle.psy_expect.proofs.Alike.{front_alike}
use Rattle.psy_expect.proofs.laws.alike.Goals as goal

pub returns : goal.returns
returns c = front_alike
