-- What the loop of `encoding::put_agents` keeps.
use Rattle.std.proofs.Common.{◌≡◌, ◌++◌, drop, length}
use Rattle.psy_image.specs.Bytes.{agent_bytes, number_bytes, paired_bytes}
use Rattle.psy_image.proofs.encoding.put_agents.Given as goal

abbrev pub invariant-agents : goal.invariant-agents
invariant-agents l = l.out.items ++ paired_bytes agent_bytes (drop l.at l.agents) (drop l.at l.codes) ≡ l.fn.out.items ++ (number_bytes (length l.codes) ++ paired_bytes agent_bytes l.agents l.codes)
