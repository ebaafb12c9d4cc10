-- Bits by place of the code: what stands on the ways from each place, 64 numbers in a row of cells.
use Rattle.std.specs.Prelude.{◌≡◌, ◌↔◌, ℕ, ◌+◌, ◌*◌, ◌/◌, ◌%◌, ◌-◌, ◌^◌, ◌<◌, ◌≤◌, List, [], get_or, length, Option, None, Some, slice_get}
use Rattle.std.specs.Int.{bit_at}
use Rattle.std.specs.Int.Bits.{bit_or}
use Rattle.std.specs.List.{sum_by}
use Rattle.psy_base.specs.declared.limits.TheConstants.{POINTS}
use Rattle.psy_code.specs.declared.instr.Instr.{Instr}
use Rattle.psy_meaning.specs.CodeWays.{IsCodeWay, IsPassed}
use Rattle.psy_flow.specs.declared.parts.Part.{Part}
use Rattle.psy_flow.specs.declared.parts.Part.TheVariants as part
use Rattle.psy_flow.specs.declared.kinds.Sought.{Sought}
use Rattle.psy_flow.specs.declared.kinds.Sought.TheVariants as sought
use Rattle.psy_flow.specs.declared.walks.Onward.{Onward}
use Rattle.psy_flow.specs.Quests.{part_of}
use Rattle.psy_flow.specs.Walks.{onward_of}
use Rattle.psy_flow.specs.Worths.{cell_of}

-- ---- bits

-- The bit is set.
abbrev pub HasBit : ℕ → ℕ → Type 0
HasBit cell bit = bit_at cell bit ≡ 1

-- It is set in the cell of the place.
abbrev pub HasBitAt : List ℕ → ℕ → ℕ → Type 0
HasBitAt row place bit = HasBit (get_or row place 0) bit

-- ---- bits that go back along ways

-- It is set in the cell of some place that ways from this one pass.
abbrev pub HasBitBehind : List Instr → List ℕ → ℕ → ℕ → Type 0
HasBitBehind instrs row from bit = (place : ℕ) × IsPassed instrs from place × HasBitAt row place bit

-- No bit is lost, and each that a cell got is of a place that ways from its own pass.
pub record IsGathered (instrs : List Instr) (before after : List ℕ) : Type 0 where
  pub count : length after ≡ length before
  pub kept : (place bit : ℕ) → HasBitAt before place bit → HasBitAt after place bit
  pub found : (place bit : ℕ) → HasBitAt after place bit → HasBitBehind instrs before place bit

-- Each cell has the bits of all places that ways from its own pass.
pub record AreGathered (instrs : List Instr) (before after : List ℕ) : Type 0 where
  pub count : length after ≡ length before
  pub each : (place bit : ℕ) → HasBitAt after place bit ↔ HasBitBehind instrs before place bit

-- The bits of the cells where a way may go on
abbrev pub onward_bits : List ℕ → Onward → ℕ
onward_bits row to = bit_or (cell_of row to.next) (cell_of row to.jump)

-- The same by the instruction of a place, if there is one
abbrev pub bits_from : List ℕ → ℕ → Option Instr → ℕ
bits_from row place None = 0
bits_from row place (Some i) = onward_bits row (onward_of i place)

-- With those of the place itself
abbrev pub gathered_at : List Instr → List ℕ → ℕ → ℕ
gathered_at instrs row place = bit_or (get_or row place 0) (bits_from row place (slice_get instrs place))

-- The cell of the place has all these already.
abbrev pub AreStill : List Instr → List ℕ → ℕ → Type 0
AreStill instrs row place = gathered_at instrs row place ≡ get_or row place 0

-- How far cells may grow, all together
abbrev pub spare : List ℕ → ℕ
spare row = sum_by (λ cell. 2 ^ 64 - cell) row

-- ---- ends

-- A way from the place ends.
abbrev pub HasEnd : List Instr → ℕ → Type 0
HasEnd instrs from = (point : ℕ) × (places : List ℕ) × IsCodeWay instrs point from places

-- 1 for the end of a way
abbrev pub end_cell : Part → ℕ
end_cell (part.End point) = 1
end_cell _ = 0

-- The first bit of each cell says whether a way from its place ends.
pub record AreEndings (instrs : List Instr) (row : List ℕ) : Type 0 where
  pub count : length row ≡ length instrs
  pub each : (place : ℕ) → HasBitAt row place 0 ↔ HasEnd instrs place

-- ---- what is listed

-- A part of a way has this number: of the point where it ends, or of the variable at which it looks.
abbrev pub IsSought : Sought → Part → ℕ → Type 0
IsSought sought.Ends (part.End point) number = point ≡ number
IsSought sought.Looks (part.Look variable) number = variable ≡ number
IsSought sought _ number = ⊥

-- The instruction at the place has the number, and a way from there ends.
abbrev pub IsFoundAt : List Instr → Sought → ℕ → ℕ → Type 0
IsFoundAt instrs sought place number = (i : Instr) × (slice_get instrs place ≡ Some i) × IsSought sought (part_of i) number × HasEnd instrs place

-- So does that of some place that ways from this one pass.
abbrev pub IsFoundFrom : List Instr → Sought → ℕ → ℕ → Type 0
IsFoundFrom instrs sought from number = (place : ℕ) × IsPassed instrs from place × IsFoundAt instrs sought place number

-- The bits of a place: those of 64 numbers from the first on which it has itself
abbrev pub IsOwn : List Instr → Sought → ℕ → ℕ → ℕ → Type 0
IsOwn instrs sought first place cell = (bit : ℕ) → HasBit cell bit ↔ ((bit < 64) × IsFoundAt instrs sought place (first + bit))

-- The same for all places
pub record AreOwn (instrs : List Instr) (sought : Sought) (first : ℕ) (row : List ℕ) : Type 0 where
  pub count : length row ≡ length instrs
  pub each : (place cell : ℕ) → slice_get row place ≡ Some cell → IsOwn instrs sought first place cell

-- The bits of the numbers that are found from each place on
abbrev pub IsRow : List Instr → Sought → ℕ → List ℕ → Type 0
IsRow instrs sought first row = (place bit : ℕ) → HasBitAt row place bit ↔ ((bit < 64) × IsFoundFrom instrs sought place (first + bit))

-- Rows for all numbers below this one
pub record AreRows (instrs : List Instr) (sought : Sought) (count : ℕ) (rows : List (List ℕ)) : Type 0 where
  pub enough : count ≤ length rows * 64
  pub few : length rows ≤ POINTS
  pub each : (k : ℕ) (row : List ℕ) → slice_get rows k ≡ Some row → IsRow instrs sought (k * 64) row

-- ---- numbers

-- The rows have set the bit of the number at the place.
abbrev pub HasNumber : List (List ℕ) → ℕ → ℕ → Type 0
HasNumber rows place number = HasBitAt (get_or rows (number / 64) []) place (number % 64)
