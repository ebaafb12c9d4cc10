-- What each loop of `looking::add_where` keeps.
use Rattle.std.proofs.Common.{◌≡◌, ◌<◌, ◌≤◌, ◌++◌, ℕ, List, get_or, length, slice_get, Some}
use Rattle.std.specs.Prelude.{nat_lt}
use Rattle.psy_flow.specs.Listed.{if_so}
use Rattle.psy_flow.proofs.looking.add_where.Given as goal

abbrev pub invariant-points : goal.invariant-points
invariant-points l = record {
  count : length l.lists ≡ length l.fn.lists;
  below : (place : ℕ) (list : List ℕ) → place < l.point → slice_get l.fn.lists place ≡ Some list → slice_get l.lists place ≡ Some (list ++ if_so (nat_lt 0 (get_or l.counts place 0)) l.variable);
  above : (place : ℕ) → l.point ≤ place → slice_get l.lists place ≡ slice_get l.fn.lists place;
}
