-- What each loop of `next::nexts_by_point` keeps.
use Rattle.std.proofs.Common.{◌≡◌, ℕ, List, length, slice_get, Some}
use Rattle.psy_flow.proofs.WayRows.{NextsAt}
use Rattle.psy_flow.proofs.next.nexts_by_point.Given as goal

abbrev pub invariant-points : goal.invariant-points
invariant-points l = record {
  count : length l.lists ≡ l.point;
  each : (point : ℕ) (list : List ℕ) → slice_get l.lists point ≡ Some list → NextsAt l.agent point list;
}
