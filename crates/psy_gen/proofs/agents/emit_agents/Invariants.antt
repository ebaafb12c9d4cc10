-- What each loop of `agents::emit_agents` keeps.
use Rattle.std.proofs.Common.{◌≡◌, ◌++◌, drop, length}
use Rattle.psy_gen.specs.Emission.{codes_from, agent_code, agent_size, agent_entries}
use Rattle.psy_gen.proofs.agents.emit_agents.Given as goal

abbrev pub invariant-loop-number : goal.invariant-loop-number
invariant-loop-number l = record {
  code : l.code ++ codes_from agent_code agent_size (drop l.number l.unit.agents) (length l.code) ≡ l.fn.code ++ codes_from agent_code agent_size l.unit.agents (length l.fn.code);
  entries : l.entries ++ agent_entries l.unit l.number (drop l.number l.unit.agents) (length l.code) ≡ agent_entries l.unit 0 l.unit.agents (length l.fn.code);
}
