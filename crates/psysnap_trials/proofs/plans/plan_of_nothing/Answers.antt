-- What is left of the proof of `plans::plan_of_nothing`.
use Rattle.psysnap_trials.proofs.Planned.{is_plan}
use Rattle.psysnap_trials.proofs.plans.plan_of_nothing.Goals as goal

pub returns-clause-plan : goal.returns-clause-plan
returns-clause-plan c = rw c.made.ensures is_plan
