-- What each loop of `found::found_rows` keeps.
use Rattle.std.proofs.Common.{◌≡◌, ℕ, ◌*◌, List, Some, length}
use Rattle.std.specs.Prelude.{slice_get}
use Rattle.psy_flow.specs.Bits.{IsRow}
use Rattle.psy_flow.proofs.found.found_rows.Given as goal

abbrev pub invariant-rows : goal.invariant-rows
invariant-rows l = record {
  count : length l.rows ≡ l.number;
  each : (k : ℕ) (row : List ℕ) → slice_get l.rows k ≡ Some row → IsRow l.instrs l.sought (k * 64) row;
}
