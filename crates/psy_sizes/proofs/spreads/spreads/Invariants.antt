-- What each loop of `spreads::spreads` keeps.
use Rattle.std.proofs.Common.{ℕ, ◌*◌, ◌^◌, ◌<◌, ◌≤◌}
use Rattle.psy_meaning.specs.KnownWays.{Listed}
use Rattle.psy_meaning.specs.QueueSizes.{IsSpreadBelow, IsWindow}
use Rattle.psy_sizes.specs.Queues.{PassesTableOf}
use Rattle.psy_sizes.proofs.spreads.spreads.Given as goal

abbrev pub invariant-agents : goal.invariant-agents
invariant-agents l = record {
  spreads : (window : ℕ) → IsWindow l.unit (Listed l.ways) l.ways.nexts l.stream window → IsSpreadBelow l.unit (Listed l.ways) l.ways.nexts l.stream window l.number l.sum;
  small : l.sum ≤ l.number * 2 ^ 50;
  counted : (agent : ℕ) → agent < l.number → PassesTableOf l.unit (Listed l.ways) l.ways.nexts l.stream agent → ⊥;
}
