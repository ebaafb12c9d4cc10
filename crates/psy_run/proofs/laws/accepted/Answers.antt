-- What is left of the proof of `laws::accepted`.
use Rattle.psy_run.proofs.Accepting.{is_runnable}
use Rattle.psy_run.proofs.laws.accepted.Goals as goal

pub returns : goal.returns
returns c = is_runnable c.bounded.ensures c.programs.ensures c.supplies.ensures
