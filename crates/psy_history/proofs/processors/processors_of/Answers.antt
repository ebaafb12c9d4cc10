-- What is left of the proof of `processors::processors_of`.
use Rattle.std.proofs.Common.{◌≡◌, ◌+◌, length, map, ap, arith}
use Rattle.std.proofs.lemmas.List.{drop_all}
use Rattle.psy_base.specs.Extremes.{most_of}
use Rattle.psy_tree.specs.declared.unit.AgentDecl.{AgentDecl}
use Rattle.psy_tree.specs.Parts.{homes}
use Rattle.psy_history.specs.Processors.{processors}
use Rattle.psy_history.proofs.OwnAgents.{most_home}
use Rattle.psy_history.proofs.processors.processors_of.Goals as goal

-- Behind all agents the greatest number so far is that of all.
last_is : (c : goal.After-loop-agent) → c.loop-agent.last ≡ most_of (homes c.args.unit.now)
last_is c =
    let none = drop_all c.loop-agent.agent-index c.args.unit.now.agents (omega (arith, c.loop-agent-test.false, ap length c.as_slice-agent-items.ensures)) in
    omega (arith, c.loop-agent.invariant, ap (λ agents. most_of (map (λ (agent : AgentDecl). agent.processor) agents)) none)

pub overflow_add-result : goal.overflow_add-result
overflow_add-result c = omega (arith, last_is c, most_home c.args.unit.now c.requires)

pub returns-clause-exact : goal.returns-clause-exact
unfolding processors
returns-clause-exact c = ap (λ n. n + 1) (last_is c)

pub returns-clause-few : goal.returns-clause-few
returns-clause-few c = omega (arith, last_is c, most_home c.args.unit.now c.requires)
