-- What is left of the proof of `laws::worked_calls`.
use Rattle.psy_verify.proofs.WorkedCalls.{adds, calls_itself, ends_heavy, leaves_two, loads, loads_none, not_counted, too_flat, too_narrow}
use Rattle.psy_verify.proofs.laws.worked_calls.Goals as goal

pub returns-clause-sum : goal.returns-clause-sum
returns-clause-sum c unit stack frames locals counters = adds stack frames locals counters unit

pub returns-clause-flat : goal.returns-clause-flat
returns-clause-flat c unit stack frames locals counters = too_flat stack frames locals counters unit

pub returns-clause-narrow : goal.returns-clause-narrow
returns-clause-narrow c unit stack frames locals counters = too_narrow stack frames locals counters unit

pub returns-clause-pair : goal.returns-clause-pair
returns-clause-pair c = leaves_two

pub returns-clause-uncounted : goal.returns-clause-uncounted
returns-clause-uncounted c = not_counted

pub returns-clause-itself : goal.returns-clause-itself
returns-clause-itself c = calls_itself

pub returns-clause-copy : goal.returns-clause-copy
returns-clause-copy c = loads

pub returns-clause-no_copy : goal.returns-clause-no_copy
returns-clause-no_copy c = loads_none

pub returns-clause-ended : goal.returns-clause-ended
returns-clause-ended c = ends_heavy
