-- What each loop of `settles::settle_each` keeps.
use Rattle.std.proofs.Common.{◌≡◌, ℕ, ◌<◌, ◌≤◌, Some, get_or, slice_get}
use Rattle.psy_queue.specs.Order.{Queued}
use Rattle.psy_tree.specs.Parts.{stream_at}
use Rattle.psy_meaning.specs.Timing.{first_date}
use Rattle.psy_dates.specs.Messages.{nowhere, settled_then}
use Rattle.psy_dates.specs.Moves.{timing_in}
use Rattle.psy_dates.proofs.settles.settle_each.Given as goal

abbrev pub invariant-streams : goal.invariant-streams
invariant-streams l = record {
  below : (stream : ℕ) (queue : Queued) → stream < l.stream → slice_get l.fn.queues stream ≡ Some queue
      → slice_get l.queues stream ≡ Some (settled_then l.date (first_date (timing_in l.plan (stream_at l.plan.unit stream).receiver)) (get_or l.seats (stream_at l.plan.unit stream).receiver nowhere) (get_or l.taken stream 0) queue);
  above : (stream : ℕ) → l.stream ≤ stream → slice_get l.queues stream ≡ slice_get l.fn.queues stream;
}
