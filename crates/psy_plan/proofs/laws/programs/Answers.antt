-- What is left of the proof of `laws::programs`.
use Rattle.psy_plan.proofs.SupplyLemmas.{translated}
use Rattle.psy_plan.proofs.laws.programs.Goals as goal

pub returns : goal.returns
returns c = translated c.of_text.ensures.unit
