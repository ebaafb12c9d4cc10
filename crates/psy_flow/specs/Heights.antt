-- How many operands there are at a place of code.
use Rattle.std.specs.Prelude.{◌≡◌, ◌⊎◌, ℕ, ◌+◌, ◌≤◌, List, [], ◌∷◌, Option, None, Some, slice_get}
use Rattle.psy_code.specs.declared.code.Code.{Code}
use Rattle.psy_code.specs.declared.code.FunctionCode.{FunctionCode}
use Rattle.psy_code.specs.declared.instr.Instr.{Instr}
use Rattle.psy_code.specs.declared.instr.Instr.TheVariants as instr
use Rattle.psy_meaning.specs.Sound.{Each}
use Rattle.psy_flow.specs.Owners.{Begins, Owner}

-- ---- instructions

-- A way on from an instruction: where it goes, and how many operands are popped and pushed on it
pub record Shift : Type 0 where
  pub to : ℕ
  pub pops : ℕ
  pub pushes : ℕ

-- One of these
abbrev pub IsAmong : {X : Type 0} → X → List X → Type 0
IsAmong x [] = ⊥
IsAmong x (y ∷ rest) = (x ≡ y) ⊎ IsAmong x rest

-- On to one place
abbrev pub onto : ℕ → ℕ → ℕ → List Shift
onto to pops pushes = record { to = to; pops = pops; pushes = pushes } ∷ []

-- Past a call, which pops the arguments and leaves the function's value; there is none past one that names no function.
abbrev pub past_call : ℕ → Option FunctionCode → List Shift
past_call place None = []
past_call place (Some function) = onto (place + 1) function.params 1

-- The ways on from an instruction at a place
abbrev pub shifts : Code → ℕ → Instr → List Shift
shifts code place (instr.Push number) = onto (place + 1) 0 1
shifts code place (instr.Load cell) = onto (place + 1) 0 1
shifts code place (instr.Store cell) = onto (place + 1) 1 0
shifts code place (instr.LoadCell base cells) = onto (place + 1) 1 1
shifts code place (instr.StoreCell base cells) = onto (place + 1) 2 0
shifts code place (instr.LoadCopy variable) = onto (place + 1) 0 1
shifts code place (instr.StoreCopy variable) = onto (place + 1) 1 0
shifts code place (instr.Past variable back) = onto (place + 1) 0 1
shifts code place (instr.Ready stream) = onto (place + 1) 0 1
shifts code place (instr.Take stream) = onto (place + 1) 0 1
shifts code place (instr.Send stream after clock) = onto (place + 1) 1 0
shifts code place (instr.Jump to) = onto to 0 0
shifts code place (instr.JumpZero to) = record { to = place + 1; pops = 1; pushes = 0 } ∷ onto to 1 0
shifts code place (instr.AndTest to) = record { to = place + 1; pops = 1; pushes = 0 } ∷ onto to 1 1
shifts code place (instr.OrTest to) = record { to = place + 1; pops = 1; pushes = 0 } ∷ onto to 1 1
shifts code place instr.Truth = onto (place + 1) 1 1
shifts code place (instr.Zero counter) = onto (place + 1) 0 0
shifts code place (instr.Guard counter bound) = onto (place + 1) 1 1
shifts code place (instr.Call function) = past_call place (slice_get code.functions function)
shifts code place instr.Return = []
shifts code place (instr.Advance point) = []
shifts code place (instr.Binary operator width) = onto (place + 1) 2 1
shifts code place (instr.Unary operator width) = onto (place + 1) 1 1
shifts code place (instr.Cast width) = onto (place + 1) 1 1

-- The instruction finds at this height what it pops, and a way goes on from it at that place and height.
abbrev pub Moves : Code → ℕ → Instr → ℕ → ℕ → ℕ → Type 0
Moves code place i height next after = (shift : Shift) × IsAmong shift (shifts code place i) × (next ≡ shift.to) × (shift.pops ≤ height)
    × (after + shift.pops ≡ height + shift.pushes)

-- ---- heights

-- A way of the owner comes to a place with so many operands, counted from none where it begins. It ends where an instruction pops what isn't
-- there.
pub data IsHeight (code : Code) (owner : Owner) : ℕ → ℕ → Type 0 where
  at_start : (place : ℕ) → Begins code owner place → IsHeight code owner place 0
  moved : (place next height after : ℕ) (i : Instr) → IsHeight code owner place height → slice_get code.instrs place ≡ Some i
      → Moves code place i height next after → IsHeight code owner next after

-- At this height the instruction finds what it pops; a `Return` finds its value alone, and an `Advance` nothing.
abbrev pub Finds : Code → ℕ → Instr → ℕ → Type 0
Finds code place instr.Return height = height ≡ 1
Finds code place (instr.Advance point) height = height ≡ 0
Finds code place i height = Each (λ (shift : Shift). shift.pops ≤ height) (shifts code place i)

-- All ways of the owner come to the place with the same height, at which the instruction there finds what it pops.
pub record IsBalanced (code : Code) (owner : Owner) (place : ℕ) : Type 0 where
  pub same : (height other : ℕ) → IsHeight code owner place height → IsHeight code owner place other → height ≡ other
  pub there : (height : ℕ) (i : Instr) → IsHeight code owner place height → slice_get code.instrs place ≡ Some i → Finds code place i height
