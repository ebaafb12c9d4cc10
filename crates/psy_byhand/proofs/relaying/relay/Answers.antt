-- What is left of the proof of `relaying::relay`.
use Rattle.psy_byhand.proofs.RelayPlan.{made_plan}
use Rattle.psy_byhand.proofs.relaying.relay.Goals as goal

pub returns : goal.returns
returns c =
    made_plan c.distances.ensures.again c.dates.ensures.count c.one_processor.ensures.feasible c.args.quantum c.args.budget c.requires.supplied _ _ _ _ _ c.args.until c.requires.quantum c.requires.budget
    c.add.ensures c.in_ok-unit.ensures c.in_ok-code.ensures c.in_ok-nexts.ensures c.in_ok-sizes.ensures
