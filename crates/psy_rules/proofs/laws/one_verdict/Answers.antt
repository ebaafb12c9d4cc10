-- What is left of the proof of `laws::one_verdict`.
use Rattle.psy_rules.proofs.Verdicts.{some_verdict, Stands-once, LeastFault-once, count-once, stands_or_fault, stands_or_count, fault_or_none}
use Rattle.psy_rules.proofs.laws.one_verdict.Goals as goal

pub returns-clause-some : goal.returns-clause-some
returns-clause-some c = some_verdict

pub returns-clause-stands : goal.returns-clause-stands
returns-clause-stands c = Stands-once

pub returns-clause-fault : goal.returns-clause-fault
returns-clause-fault c = LeastFault-once

pub returns-clause-count : goal.returns-clause-count
returns-clause-count c = count-once

pub returns-clause-stands_or_fault : goal.returns-clause-stands_or_fault
returns-clause-stands_or_fault c = stands_or_fault

pub returns-clause-stands_or_count : goal.returns-clause-stands_or_count
returns-clause-stands_or_count c = stands_or_count

pub returns-clause-fault_or_none : goal.returns-clause-fault_or_none
returns-clause-fault_or_none c = fault_or_none
