-- What is left of the proof of `laws::few_notes`.
use Rattle.psy_notes.proofs.Walks.{few_notes}
use Rattle.psy_notes.proofs.laws.few_notes.Goals as goal

pub returns : goal.returns
returns c = few_notes
