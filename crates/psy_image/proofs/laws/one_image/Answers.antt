-- What is left of the proof of `laws::one_image`.
use Rattle.psy_image.proofs.Decoded.{either, is_emptied, not_both, one_image, one_place, within_bytes}
use Rattle.psy_image.proofs.laws.one_image.Goals as goal

pub returns-clause-either : goal.returns-clause-either
returns-clause-either c = either

pub returns-clause-image : goal.returns-clause-image
returns-clause-image c = one_image

pub returns-clause-place : goal.returns-clause-place
returns-clause-place c = one_place

pub returns-clause-not_both : goal.returns-clause-not_both
returns-clause-not_both c = not_both

pub returns-clause-emptied : goal.returns-clause-emptied
returns-clause-emptied c = is_emptied

pub returns-clause-within : goal.returns-clause-within
returns-clause-within c = within_bytes
