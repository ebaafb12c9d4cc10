-- What each loop of `found::own_row` keeps.
use Rattle.std.proofs.Common.{◌≡◌, ℕ, length, Some}
use Rattle.std.specs.Prelude.{slice_get}
use Rattle.psy_flow.specs.Bits.{IsOwn}
use Rattle.psy_flow.proofs.found.own_row.Given as goal

abbrev pub invariant-places : goal.invariant-places
invariant-places l = record {
  count : length l.row ≡ l.place;
  each : (place cell : ℕ) → slice_get l.row place ≡ Some cell → IsOwn l.instrs l.sought l.first place cell;
}
