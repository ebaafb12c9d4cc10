-- The straight way from a place of code: as far as each instruction can go on at one place alone.
use Rattle.std.specs.Prelude.{ℕ, zero, suc, ◌+◌, List, [], ◌∷◌, Option, None, Some, length, slice_get}
use Rattle.psy_code.specs.declared.instr.Instr.{Instr}
use Rattle.psy_code.specs.declared.instr.Instr.TheVariants as instr

-- The only place where an action can go on behind an instruction at a place. A test with a jump has two, a call goes into a function, and an `Advance`
-- ends the action.
abbrev pub only_next : Instr → ℕ → Option ℕ
only_next (instr.Jump to) place = Some to
only_next (instr.JumpZero to) place = None
only_next (instr.AndTest to) place = None
only_next (instr.OrTest to) place = None
only_next (instr.Call function) place = None
only_next instr.Return place = None
only_next (instr.Advance point) place = None
only_next _ place = Some (place + 1)

-- On from the next place, where there is one
abbrev pub then_from : (ℕ → List ℕ) → Option ℕ → List ℕ
then_from rest None = []
then_from rest (Some next) = rest next

-- A place where an instruction stands, and on from there
abbrev pub found_at : (ℕ → List ℕ) → ℕ → Option Instr → List ℕ
found_at rest place None = []
found_at rest place (Some i) = place ∷ then_from rest (only_next i place)

-- At most so many places from this one on
abbrev pub straight : ℕ → List Instr → ℕ → List ℕ
straight zero instrs place = []
straight (suc more) instrs place = found_at (straight more instrs) place (slice_get instrs place)

-- The straight way from a place; code of so many instructions has none that is longer and ends.
abbrev pub straight_way : List Instr → ℕ → List ℕ
straight_way instrs place = straight (length instrs) instrs place
