-- What each loop of `resume::queues_of` keeps.
use Rattle.std.proofs.Common.{◌≡◌, ℕ, ◌+◌, ◌<◌, Some, get_or, length, slice_get}
use Rattle.psy_dates.specs.declared.opening.StreamOpening.{StreamOpening}
use Rattle.psy_dates.proofs.resume.queues_of.Given as goal

abbrev pub invariant-streams : goal.invariant-streams
invariant-streams l = record {
  count : length l.queues.items ≡ l.stream;
  messages : (stream : ℕ) (known : StreamOpening) → stream < l.stream → slice_get l.streams stream ≡ Some known
      → slice_get l.queues.items stream ≡ Some (record { size = get_or l.sizes stream 0 + length known.messages; messages = known.messages });
}
