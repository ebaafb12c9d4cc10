-- What is left of the proof of `laws::one_value`.
use Rattle.psy_text.proofs.Numbers.{one_value}
use Rattle.psy_text.proofs.laws.one_value.Goals as goal

pub returns : goal.returns
returns c = one_value
