-- What each loop of `names::Names::of_agents` keeps.
use Rattle.std.proofs.Common.{◌≡◌, map, take}
use Rattle.psy_script.proofs.names.Names.of_agents.Given as goal

-- The names so far
abbrev pub invariant-loop-agent : goal.invariant-loop-agent
invariant-loop-agent l = l.names ≡ map (λ a. a.name) (take l.agent-index l.unit.agents)
