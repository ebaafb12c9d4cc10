-- What each loop of `sending::add_where` keeps.
use Rattle.std.proofs.Common.{◌≡◌, ◌<◌, ◌≤◌, ◌++◌, ℕ, List, get_or, length, slice_get, Some}
use Rattle.psy_base.specs.declared.ways.SendWay.{SendWay}
use Rattle.psy_flow.specs.Listed.{some_way}
use Rattle.psy_flow.proofs.sending.add_where.Given as goal

abbrev pub invariant-points : goal.invariant-points
invariant-points l = record {
  count : length l.lists ≡ length l.fn.lists;
  below : (place : ℕ) (list : List SendWay) → place < l.point → slice_get l.fn.lists place ≡ Some list → slice_get l.lists place ≡ Some (list ++ some_way (record { to = l.to; stream = l.stream; most = get_or l.counts place 0 }));
  above : (place : ℕ) → l.point ≤ place → slice_get l.lists place ≡ slice_get l.fn.lists place;
}
