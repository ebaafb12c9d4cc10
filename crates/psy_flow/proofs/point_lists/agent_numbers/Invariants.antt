-- What each loop of `point_lists::agent_numbers` keeps.
use Rattle.std.proofs.Common.{◌≡◌, ℕ, List, Some, length}
use Rattle.std.specs.Prelude.{slice_get}
use Rattle.psy_meaning.specs.CodeWays.{place_of}
use Rattle.psy_flow.specs.Bits.{HasNumber}
use Rattle.psy_flow.specs.Listed.{AreNumbers}
use Rattle.psy_flow.proofs.point_lists.agent_numbers.Given as goal

abbrev pub invariant-points : goal.invariant-points
invariant-points l = record {
  count : length l.lists ≡ l.point;
  each : (point : ℕ) (numbers : List ℕ) → slice_get l.lists point ≡ Some numbers → AreNumbers (HasNumber l.rows (place_of l.code l.agent point)) numbers;
}
