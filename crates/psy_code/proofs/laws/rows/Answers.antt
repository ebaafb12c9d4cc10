-- What is left of the proof of `laws::rows`.
use Rattle.psy_code.proofs.Rowed.{has_row}
use Rattle.psy_code.proofs.laws.rows.Goals as goal

pub returns-clause-each : goal.returns-clause-each
returns-clause-each c = has_row
