-- What is left of the proof of `laws::fitting`.
use Rattle.psy_history.proofs.FittedRuns.{fitted_run}
use Rattle.psy_history.proofs.laws.fitting.Goals as goal

pub returns : goal.returns
returns c unit code ways stalls inputs fits given = fitted_run unit code ways stalls inputs fits given
