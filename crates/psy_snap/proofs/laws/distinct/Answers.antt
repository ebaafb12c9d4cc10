-- What is left of the proof of `laws::distinct`.
use Rattle.psy_snap.proofs.StatesFound.{state_same}
use Rattle.psy_snap.proofs.laws.distinct.Goals as goal

pub returns : goal.returns
returns c = state_same
