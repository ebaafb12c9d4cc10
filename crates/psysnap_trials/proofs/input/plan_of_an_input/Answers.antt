-- What is left of the proof of `input::plan_of_an_input`.
use Rattle.psysnap_trials.proofs.InputPlanned.{made_plan}
use Rattle.psysnap_trials.proofs.input.plan_of_an_input.Goals as goal

pub returns-clause-plan : goal.returns-clause-plan
returns-clause-plan c = made_plan c.made.result c.made.ensures
