-- What is left of the proof of `laws::ends`.
use Rattle.psy_meaning.proofs.Endings.{action_ends}
use Rattle.psy_meaning.proofs.laws.ends.Goals as goal

pub returns : goal.returns
returns c unit number agent point s sound has = action_ends unit number agent point s sound (sound.agents number agent has)
