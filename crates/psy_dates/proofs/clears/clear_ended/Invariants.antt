-- What each loop of `clears::clear_ended` keeps.
use Rattle.std.proofs.Common.{◌≡◌, ℕ, ◌<◌, ◌≤◌, if◌then◌else◌, Some, slice_get}
use Rattle.psy_tree.specs.Parts.{stream_at}
use Rattle.psy_dates.specs.Moves.{ends_at}
use Rattle.psy_dates.proofs.clears.clear_ended.Given as goal

abbrev pub invariant-streams : goal.invariant-streams
invariant-streams l = record {
  below : (stream n : ℕ) → stream < l.stream → slice_get l.fn.taken stream ≡ Some n → slice_get l.taken stream ≡ Some (if ends_at l.date (slice_get l.seats (stream_at l.plan.unit stream).receiver) then 0 else n);
  above : (stream : ℕ) → l.stream ≤ stream → slice_get l.taken stream ≡ slice_get l.fn.taken stream;
}
