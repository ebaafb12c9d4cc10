-- What is left of the proof of `timing::point_of`.
use Rattle.psy_audit.proofs.Places.{part_none}
use Rattle.psy_audit.proofs.timing.point_of.Goals as goal

pub returns-in-None : goal.returns-in-None
returns-in-None c =
    part_none (λ a. a.points) c.args.plan.now.unit.agents c.as_slice.result.now c.args.agent c.args.point c.index-as_slice-agent.result _ _ c.as_slice.ensures c.requires c.in-None.ensures.value
