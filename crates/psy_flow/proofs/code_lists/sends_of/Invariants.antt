-- What each loop of `code_lists::sends_of` keeps.
use Rattle.std.proofs.Common.{◌≡◌, ◌<◌, ℕ, List, false, length, replicate, slice_get, Some}
use Rattle.psy_base.specs.declared.ways.SendWay.{SendWay}
use Rattle.psy_meaning.specs.CodeWays.{AreCodeSends, budget_of, place_of}
use Rattle.psy_flow.specs.CodeLists.{HaveMostsFrom}
use Rattle.psy_flow.proofs.code_lists.sends_of.Given as goal

abbrev pub invariant-points : goal.invariant-points
invariant-points l = record {
  marks : l.marks ≡ replicate (length l.code.instrs) false;
  row : length l.row ≡ length l.code.instrs;
  sends : length l.sends ≡ l.point;
  each : (point : ℕ) (list : List SendWay) → slice_get l.sends point ≡ Some list
      → AreCodeSends l.code.instrs (place_of l.code l.number point) (budget_of l.unit l.number point) list;
  judged : (point : ℕ) → point < l.point
      → HaveMostsFrom l.code.instrs (place_of l.code l.number point) (budget_of l.unit l.number point) (length l.unit.streams);
}
