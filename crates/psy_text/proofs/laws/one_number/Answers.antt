-- What is left of the proof of `laws::one_number`.
use Rattle.psy_text.proofs.Numbers.{one_number}
use Rattle.psy_text.proofs.laws.one_number.Goals as goal

pub returns : goal.returns
returns c = one_number
