-- What is left of the proof of `counting::counter`.
use Rattle.psy_byhand.proofs.CounterPlan.{made_plan}
use Rattle.psy_byhand.proofs.counting.counter.Goals as goal

pub returns : goal.returns
returns c =
    made_plan c.args.quantum c.args.budget c.distances.ensures.again c.one_processor.ensures.feasible c.requires.supplied _ _ _ _ _ c.args.until c.requires.quantum c.requires.budget
    c.add.ensures c.in_ok-unit.ensures c.in_ok-code.ensures c.in_ok-nexts.ensures c.in_ok-sizes.ensures
