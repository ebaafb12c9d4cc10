-- What is left of the proof of `laws::one_front`.
use Rattle.psy_notes.proofs.Walks.{one_front}
use Rattle.psy_notes.proofs.laws.one_front.Goals as goal

pub returns : goal.returns
returns c = one_front
