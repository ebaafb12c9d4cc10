-- What each loop of `read::agent_named` keeps.
use Rattle.std.proofs.Common.{◌≡◌, ◌+◌, drop}
use Rattle.std.specs.Prelude.{bytes_eq}
use Rattle.std.specs.List.{position_or_len}
use Rattle.psy_audit.proofs.read.agent_named.Given as goal

-- None so far has the name.
abbrev pub invariant-agents : goal.invariant-agents
invariant-agents l = record {
  counted : l.place ≡ l.agent-index;
  left : position_or_len (λ a. bytes_eq l.name a.name) l.unit.agents ≡ l.place + position_or_len (λ a. bytes_eq l.name a.name) (drop l.place l.unit.agents);
}
