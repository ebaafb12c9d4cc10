-- What each loop of `queues::queues` keeps.
use Rattle.std.proofs.Common.{◌≡◌, ℕ, ◌<◌, ◌≤◌, length, get_or}
use Rattle.std.specs.List.{All}
use Rattle.psy_base.specs.declared.limits.TheConstants.{QUEUE}
use Rattle.psy_meaning.specs.KnownWays.{Listed}
use Rattle.psy_sizes.specs.Queues.{IsKeptQueue}
use Rattle.psy_sizes.proofs.queues.queues.Given as goal

abbrev pub invariant-streams : goal.invariant-streams
invariant-streams l = record {
  count : length l.sizes ≡ l.stream;
  each : (stream d : ℕ) → stream < l.stream → IsKeptQueue l.unit (Listed l.ways) l.ways.nexts stream (get_or l.sizes stream d);
  small : All (λ size. size ≤ QUEUE) l.sizes;
}
