-- What each loop of `shared::first_outboxes` keeps.
use Rattle.std.proofs.Common.{◌≡◌, ℕ, ◌<◌, [], Some, get_or, length, slice_get}
use Rattle.psy_dates.proofs.shared.first_outboxes.Given as goal

abbrev pub invariant-agents : goal.invariant-agents
invariant-agents l = record {
  count : length l.outboxes.items ≡ l.agent;
  empty : (agent : ℕ) → agent < l.agent → slice_get l.outboxes.items agent ≡ Some (record { size = get_or l.sizes agent 0; sends = [] });
}
