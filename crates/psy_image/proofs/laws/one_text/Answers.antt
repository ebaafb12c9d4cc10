-- What is left of the proof of `laws::one_text`.
use Rattle.psy_image.proofs.Encoded.{one_text}
use Rattle.psy_image.proofs.laws.one_text.Goals as goal

pub returns : goal.returns
returns c = one_text
