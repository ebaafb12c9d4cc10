-- What is left of the proof of `laws::sound`.
use Rattle.psy_snap.proofs.StreamsSound.{state_sound}
use Rattle.psy_snap.proofs.laws.sound.Goals as goal

pub returns : goal.returns
returns c = λ plan graphs opening inputs stalls drawn has fits none. state_sound c.one_size_by.ensures.same plan graphs drawn opening has fits none inputs stalls
