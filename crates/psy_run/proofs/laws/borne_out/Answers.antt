-- What is left of the proof of `laws::borne_out`.
use Rattle.psy_run.proofs.Accepting.{answering_borne_out}
use Rattle.psy_run.proofs.laws.borne_out.Goals as goal

pub returns : goal.returns
returns c = answering_borne_out c.programs.ensures c.supplies.ensures
