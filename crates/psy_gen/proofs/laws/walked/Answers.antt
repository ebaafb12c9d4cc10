-- What is left of the proof of `laws::walked`.
use Rattle.psy_gen.proofs.ways.Walks.{can_walk}
use Rattle.psy_gen.proofs.laws.walked.Goals as goal

pub returns : goal.returns
returns c unit text = can_walk unit (c.sound.ensures.unit text.text.0 unit text.text.1)
