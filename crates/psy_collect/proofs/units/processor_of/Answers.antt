-- What is left of the proof of `units::processor_of`.
use Rattle.psy_collect.proofs.Homes.{home_none, home_some}
use Rattle.psy_collect.proofs.units.processor_of.Goals as goal

pub returns-in-Some : goal.returns-in-Some
returns-in-Some c = home_some c.args.unit.now c.args.agent c.in-Some.decl.now c.in-Some.ensures.value

pub returns-in-None : goal.returns-in-None
returns-in-None c = home_none c.args.unit.now c.args.agent c.in-None.ensures.value
