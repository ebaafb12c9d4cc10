-- What is left of the proof of `laws::on_time`.
use Rattle.psy_history.proofs.Asking.{bounded_by}
use Rattle.psy_history.proofs.Finishes.{due_finished, earlier_finished, finished_in_time, finishes_in_time}
use Rattle.psy_history.proofs.laws.on_time.Goals as goal

pub returns-clause-kept : goal.returns-clause-kept
returns-clause-kept c s order until cycle by processor supplied there early soon = bounded_by s order until supplied processor cycle by there early soon

pub returns-clause-finished : goal.returns-clause-finished
returns-clause-finished c s order until dates agent r supplied there due = finished_in_time s order until supplied dates agent r there due

pub returns-clause-due : goal.returns-clause-due
returns-clause-due c s order until date agent r supplied early there due = due_finished s order until supplied date agent r early there due

pub returns-clause-finishes : goal.returns-clause-finishes
returns-clause-finishes c s order until cycles agent r supplied far there due = finishes_in_time s order until supplied cycles agent r far there due

pub returns-clause-earlier : goal.returns-clause-earlier
returns-clause-earlier c s order until date cycles agent r before supplied early far last = earlier_finished s order until supplied date cycles agent r before early far last
