-- What each loop of `first::next_change` keeps.
use Rattle.std.proofs.Common.{◌≡◌, ◌<◌, ◌≤◌, ℕ, List}
use Rattle.psy_history.specs.Processors.{processor_at}
use Rattle.psy_history.specs.Scripts.{in_force}
use Rattle.psy_audit.specs.Rows.{waits_at}
use Rattle.psy_audit.specs.Waits.{pending_in}
use Rattle.psy_audit.proofs.first.next_change.Given as goal

-- No order comes into force before it, and of the agents so far that are of the processor no action begins to wait or ends.
abbrev pub invariant-agents : goal.invariant-agents
invariant-agents l = record {
  behind : l.cycle < l.next;
  within : l.next ≤ l.to;
  order : (declared : List ℕ) (c : ℕ) → l.cycle ≤ c → c < l.next → in_force declared l.orders c ≡ in_force declared l.orders l.cycle;
  same : (k : ℕ) → k < l.agent → processor_at l.plan.unit k ≡ l.processor → (c : ℕ) → l.cycle ≤ c → c < l.next
      → pending_in c (waits_at l.rows k) ≡ pending_in l.cycle (waits_at l.rows k);
}
