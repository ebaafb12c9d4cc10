-- What each loop of `found::endings` keeps.
use Rattle.std.proofs.Common.{◌≡◌, ℕ, length, Some}
use Rattle.std.specs.Prelude.{slice_get}
use Rattle.psy_code.specs.declared.instr.Instr.{Instr}
use Rattle.psy_flow.specs.Bits.{end_cell}
use Rattle.psy_flow.specs.Quests.{part_of}
use Rattle.psy_flow.proofs.found.endings.Given as goal

abbrev pub invariant-places : goal.invariant-places
invariant-places l = record {
  count : length l.row ≡ l.instr-index;
  cells : (place cell : ℕ) → slice_get l.row place ≡ Some cell → (i : Instr) → slice_get l.instrs place ≡ Some i → cell ≡ end_cell (part_of i);
}
