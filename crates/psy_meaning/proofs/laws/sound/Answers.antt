-- What is left of the proof of `laws::sound`.
use Rattle.psy_meaning.proofs.SoundPaths.{none_advances}
use Rattle.psy_meaning.proofs.SoundUnits.{unit_sound}
use Rattle.psy_meaning.proofs.laws.sound.Goals as goal

pub returns-clause-unit : goal.returns-clause-unit
returns-clause-unit c = unit_sound

pub returns-clause-functions : goal.returns-clause-functions
returns-clause-functions c = none_advances
