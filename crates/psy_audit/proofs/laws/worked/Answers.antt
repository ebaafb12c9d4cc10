-- What is left of the proof of `laws::worked`: the rows compute.
use Rattle.std.proofs.Common.{refl}
use Rattle.psy_history.specs.Processors.{processor_at, processors}
use Rattle.psy_audit.proofs.laws.worked.Goals as goal

pub returns-clause-forms : goal.returns-clause-forms
unfolding processor_at processors
returns-clause-forms c = refl

pub returns-clause-courses : goal.returns-clause-courses
unfolding processor_at processors
returns-clause-courses c = refl

pub returns-clause-dates : goal.returns-clause-dates
unfolding processor_at processors
returns-clause-dates c = refl

pub returns-clause-turns : goal.returns-clause-turns
unfolding processor_at processors
returns-clause-turns c = refl

pub returns-clause-sights : goal.returns-clause-sights
unfolding processor_at processors
returns-clause-sights c = refl
