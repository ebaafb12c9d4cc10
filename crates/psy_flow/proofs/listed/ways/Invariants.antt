-- What each loop of `listed::ways` keeps.
use Rattle.std.proofs.Common.{◌≡◌, ℕ, List, length, slice_get, Some}
use Rattle.psy_flow.proofs.WayRows.{AllLooksAt, AllNextsAt}
use Rattle.psy_flow.proofs.listed.ways.Given as goal

abbrev pub invariant-agents : goal.invariant-agents
invariant-agents l = record {
  nexts : length l.nexts ≡ l.number;
  looks : length l.looks ≡ l.number;
  each_next : (number : ℕ) (lists : List (List ℕ)) → slice_get l.nexts number ≡ Some lists → AllNextsAt l.unit number lists;
  each_look : (number : ℕ) (lists : List (List ℕ)) → slice_get l.looks number ≡ Some lists → AllLooksAt l.unit number lists;
}
