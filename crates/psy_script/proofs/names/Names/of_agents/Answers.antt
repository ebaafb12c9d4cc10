-- What is left of the proof of `names::Names::of_agents`.
use Rattle.psy_script.proofs.NamePlaces.{agents_differ, absent_next}
use Rattle.psy_script.proofs.names.Names.of_agents.Goals as goal

pub add-requires-clause-absent : goal.add-requires-clause-absent
add-requires-clause-absent c =
    let items = c.as_slice-agent-items.ensures in
    rw c.loop-agent.invariant (absent_next (λ a. a.name) c.args.unit.now.agents c.loop-agent.agent-index c.agent-item.result
    (agents_differ c.args.unit.now c.requires) (rw items at c.loop-agent-test.true) (rw items at c.agent-item.is))
