-- What each loop of `agent::draw_agents` keeps.
use Rattle.std.proofs.Common.{◌≡◌, ◌+◌, ◌*◌, map}
use Rattle.std.specs.List.{range_with_len}
use Rattle.psy_make.specs.Generator.{drawn, agent_of}
use Rattle.psy_make.proofs.agent.draw_agents.Given as goal

-- As many agents as were counted are drawn, with three numbers each
abbrev pub invariant-loop-number : goal.invariant-loop-number
invariant-loop-number l = record {
  drawn : l.generator.x ≡ drawn l.seed (3 * l.number + 1);
  agents : l.agents.items ≡ map (agent_of l.seed) (range_with_len 0 l.number);
}
