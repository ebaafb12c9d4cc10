-- What is left of the proof of `laws::rounds`.
use Rattle.psy_run.proofs.MeaningText.{same_but_rounds}
use Rattle.psy_run.proofs.laws.rounds.Goals as goal

pub returns : goal.returns
returns c = same_but_rounds
