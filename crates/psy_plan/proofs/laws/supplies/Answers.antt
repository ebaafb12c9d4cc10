-- What is left of the proof of `laws::supplies`.
use Rattle.psy_plan.proofs.SupplyLemmas.{supply_is}
use Rattle.psy_plan.proofs.laws.supplies.Goals as goal

pub returns : goal.returns
returns c = supply_is c.extents.ensures.met
