-- What is left of the proof of `laws::rules`.
use Rattle.psy_verify.proofs.Ruled.{kept, no_fault, of_rules, one_least}
use Rattle.psy_verify.proofs.laws.rules.Goals as goal

pub returns-clause-each : goal.returns-clause-each
returns-clause-each c unit code = (kept unit code, of_rules unit code)

pub returns-clause-none : goal.returns-clause-none
returns-clause-none c = no_fault

pub returns-clause-one : goal.returns-clause-one
returns-clause-one c = one_least
