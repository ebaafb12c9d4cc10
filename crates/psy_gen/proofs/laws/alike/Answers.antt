-- What is left of the proof of `laws::alike`.
use Rattle.psy_gen.proofs.Alikes.{code_alike}
use Rattle.psy_gen.proofs.laws.alike.Goals as goal

pub returns : goal.returns
returns c = code_alike c.lasting.ensures.lasted c.ends.ensures
