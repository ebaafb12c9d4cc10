-- What each loop of `shared::first_queues` keeps.
use Rattle.std.proofs.Common.{◌≡◌, ℕ, ◌<◌, [], Some, get_or, length, slice_get}
use Rattle.psy_dates.proofs.shared.first_queues.Given as goal

abbrev pub invariant-streams : goal.invariant-streams
invariant-streams l = record {
  count : length l.queues.items ≡ l.stream;
  empty : (stream : ℕ) → stream < l.stream → slice_get l.queues.items stream ≡ Some (record { size = get_or l.sizes stream 0; messages = [] });
}
