-- What is left of the proof of `laws::rates`.
use Rattle.psy_rate.proofs.Existence.{line_some, line_one}
use Rattle.psy_rate.proofs.LinesOn.{rates_on}
use Rattle.psy_rate.proofs.laws.rates.Goals as goal

pub returns-clause-some : goal.returns-clause-some
returns-clause-some c = line_some

pub returns-clause-one : goal.returns-clause-one
returns-clause-one c = line_one

pub returns-clause-on : goal.returns-clause-on
returns-clause-on c = rates_on
