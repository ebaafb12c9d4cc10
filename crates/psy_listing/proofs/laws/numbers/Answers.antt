-- What is left of the proof of `laws::numbers`.
use Rattle.psy_listing.proofs.Steps.{on_straight_way}
use Rattle.psy_listing.proofs.laws.numbers.Goals as goal

pub returns : goal.returns
returns c code agent s t n e less = on_straight_way code agent s t n e less
