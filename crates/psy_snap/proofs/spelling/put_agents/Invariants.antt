-- What the loop of `spelling::put_agents` keeps.
use Rattle.std.proofs.Common.{◌≡◌, ◌++◌, take}
use Rattle.std.specs.List.{flat_map}
use Rattle.psy_snap.specs.Bytes.{agent_bytes}
use Rattle.psy_snap.proofs.spelling.put_agents.Given as goal

abbrev pub invariant-agents : goal.invariant-agents
invariant-agents l = l.out ≡ l.fn.out ++ flat_map agent_bytes (take l.agent-index l.agents)
