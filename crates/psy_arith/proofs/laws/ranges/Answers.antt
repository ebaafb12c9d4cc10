-- What is left of the proof of `laws::ranges`.
use Rattle.psy_arith.proofs.Ranges.{value1_fits, value2_fits}
use Rattle.psy_arith.proofs.laws.ranges.Goals as goal

pub returns : goal.returns
returns c = record { two = value2_fits; one = value1_fits }
