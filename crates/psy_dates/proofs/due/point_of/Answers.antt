-- What is left of the proof of `due::point_of`.
use Rattle.psy_dates.proofs.Lists.{part_none}
use Rattle.psy_dates.proofs.due.point_of.Goals as goal

pub returns-in-None-clause-value : goal.returns-in-None-clause-value
returns-in-None-clause-value c =
    part_none (λ a. a.points) c.args.plan.now.unit.agents c.as_slice.result.now c.args.agent c.args.point c.index-as_slice-agent.result _ _ c.as_slice.ensures c.requires.agent c.in-None.ensures.value
