-- What each loop of `copies::index_of` keeps.
use Rattle.std.proofs.Common.{◌≡◌, ◌≤◌, ℕ, ◌+◌, length, drop, Some}
use Rattle.std.specs.Prelude.{slice_get}
use Rattle.psy_machine.specs.Copying.{IsFirst}
use Rattle.psy_machine.proofs.copies.index_of.Given as goal

-- The index of the entries from a place on
abbrev pub invariant-loop-place : goal.invariant-loop-place
invariant-loop-place l = record {
  within : l.place ≤ length l.entries;
  index : (variable i : ℕ) → IsFirst variable (drop l.place l.entries) i → slice_get l.places.items variable ≡ Some (l.place + i);
}

abbrev pub decreases-loop-place : goal.decreases-loop-place
decreases-loop-place l = l.place
