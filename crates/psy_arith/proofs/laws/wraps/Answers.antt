-- What is left of the proof of `laws::wraps`.
use Rattle.psy_arith.proofs.Wrapping.{wraps_is}
use Rattle.psy_arith.proofs.laws.wraps.Goals as goal

pub returns : goal.returns
returns c = record { only = wraps_is }
