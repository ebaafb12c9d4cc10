-- What is left of the proof of `laws::images`.
use Rattle.psy_verify.proofs.images.Names.{name_of}
use Rattle.psy_verify.proofs.images.Sound.{sound_image}
use Rattle.psy_verify.proofs.laws.images.Goals as goal

pub returns : goal.returns
returns c = sound_image (λ text h. name_of text ((c.names.ensures text).0 h))
