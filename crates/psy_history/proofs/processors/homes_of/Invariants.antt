-- What each loop of `processors::homes_of` keeps.
use Rattle.std.proofs.Common.{◌≡◌, map, take}
use Rattle.psy_tree.specs.declared.unit.AgentDecl.{AgentDecl}
use Rattle.psy_history.proofs.processors.homes_of.Given as goal

abbrev pub invariant-loop-agent : goal.invariant-loop-agent
invariant-loop-agent l = l.list ≡ map (λ (agent : AgentDecl). agent.processor) (take l.agent-index l.unit.agents)
