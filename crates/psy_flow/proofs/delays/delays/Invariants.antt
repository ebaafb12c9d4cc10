-- What each loop of `delays::delays` keeps.
use Rattle.std.proofs.Common.{◌≡◌, ℕ, length, slice_get, Some}
use Rattle.psy_meaning.specs.Sendings.{longest_delay}
use Rattle.psy_flow.proofs.delays.delays.Given as goal

abbrev pub invariant-streams : goal.invariant-streams
invariant-streams l = record {
  count : length l.delays ≡ l.stream;
  each : (stream delay : ℕ) → slice_get l.delays stream ≡ Some delay → delay ≡ longest_delay l.unit stream;
}
