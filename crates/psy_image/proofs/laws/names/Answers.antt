-- What is left of the proof of `laws::names`.
use Rattle.psy_image.proofs.NamesSpelled.{name_spells}
use Rattle.psy_image.proofs.laws.names.Goals as goal

pub returns : goal.returns
returns c = name_spells
