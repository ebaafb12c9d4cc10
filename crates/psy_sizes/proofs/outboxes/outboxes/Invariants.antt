-- What each loop of `outboxes::outboxes` keeps.
use Rattle.std.proofs.Common.{◌≡◌, ℕ, ◌<◌, length, get_or}
use Rattle.psy_base.specs.Extremes.{IsGreatest}
use Rattle.psy_meaning.specs.KnownWays.{Listed}
use Rattle.psy_meaning.specs.QueueSizes.{HasSendsTo}
use Rattle.psy_sizes.proofs.outboxes.outboxes.Given as goal

abbrev pub invariant-agents : goal.invariant-agents
invariant-agents l = record {
  count : length l.sizes ≡ l.number;
  each : (number d : ℕ) → number < l.number → IsGreatest (HasSendsTo l.unit (Listed l.ways) l.ways.nexts number) (get_or l.sizes number d);
}
