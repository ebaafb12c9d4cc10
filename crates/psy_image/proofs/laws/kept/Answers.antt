-- What is left of the proof of `laws::kept`.
use Rattle.psy_image.proofs.Decoded.{image_again, keeps_ranges}
use Rattle.psy_image.proofs.laws.kept.Goals as goal

pub returns-clause-ranges : goal.returns-clause-ranges
returns-clause-ranges c = keeps_ranges

pub returns-clause-again : goal.returns-clause-again
returns-clause-again c = image_again
