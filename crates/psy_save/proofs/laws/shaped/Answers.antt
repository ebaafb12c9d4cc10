-- What is left of the proof of `laws::shaped`.
use Rattle.psy_save.proofs.ShapedStates.{shape}
use Rattle.psy_save.proofs.laws.shaped.Goals as goal

pub returns : goal.returns
returns c plan graphs state its has = shape plan its graphs state has
