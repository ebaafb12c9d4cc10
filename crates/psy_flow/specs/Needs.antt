-- What the calls of code need of the room for operands and for frames.
use Rattle.std.specs.Prelude.{◌≡◌, ℕ, ◌+◌, ◌<◌, ◌≤◌, length, Some, slice_get}
use Rattle.psy_code.specs.declared.code.Code.{Code}
use Rattle.psy_code.specs.declared.instr.Instr.TheVariants as instr
use Rattle.psy_meaning.specs.CodeWays.{agent_code_at}
use Rattle.psy_flow.specs.Owners.{Agent, Function, IsReached, Owner, function_code_at}
use Rattle.psy_flow.specs.Heights.{IsBalanced, IsHeight}

-- ---- frames

-- How many cells the owner's frame has
abbrev pub cells_of : Code → Owner → ℕ
cells_of code (Agent number) = length (agent_code_at code number).cells
cells_of code (Function number) = (function_code_at code number).params + length (function_code_at code number).locals

-- How many counters it has
abbrev pub counters_of : Code → Owner → ℕ
counters_of code (Agent number) = (agent_code_at code number).counters
counters_of code (Function number) = (function_code_at code number).counters

-- How many cells and counters the frame of a function has
abbrev pub frame_size : Code → ℕ → ℕ
frame_size code function = cells_of code (Function function) + counters_of code (Function function)

-- ---- functions that are counted

-- There is the function, and its own ways find what they pop: it has no fault of height of its own, at any place of the code.
abbrev pub IsCounted : Code → ℕ → Type 0
IsCounted code function = (function < length code.functions) × ((place : ℕ) → place < length code.instrs → IsBalanced code (Function function) place)

-- A way of the owner comes to a call of a function, which leaves so many operands below the arguments.
abbrev pub Calls : Code → Owner → ℕ → ℕ → ℕ → Type 0
Calls code owner place function left = IsHeight code owner place (left + (function_code_at code function).params)
    × (slice_get code.instrs place ≡ Some (instr.Call function))

-- A function may hold so many operands: its own, or those that are left below a call and what the called function may hold. A call counts
-- where the called function does, and has a number below the caller's.
pub data MayHold (code : Code) : ℕ → ℕ → Type 0 where
  own_height : (function place height : ℕ) → IsHeight code (Function function) place height → MayHold code function height
  above_left : (function place callee left more : ℕ) → Calls code (Function function) place callee left → callee < function → IsCounted code callee
      → MayHold code callee more → MayHold code function (left + more)

-- A function may use so many cells and counters: its own, and with them what a function that it calls may use
pub data MayUse (code : Code) : ℕ → ℕ → Type 0 where
  own_frame : (function : ℕ) → MayUse code function (frame_size code function)
  with_callee : (function place callee more : ℕ) → IsReached code (Function function) place → slice_get code.instrs place ≡ Some (instr.Call callee)
      → callee < function → IsCounted code callee → MayUse code callee more → MayUse code function (frame_size code function + more)

-- ---- an agent's room

-- An agent has room for its operands at a place, and for those of a function that is called there.
pub record FitsStack (code : Code) (agent place : ℕ) : Type 0 where
  pub own : (height : ℕ) → IsHeight code (Agent agent) place height → height ≤ (agent_code_at code agent).stack
  pub call : (function left more : ℕ) → Calls code (Agent agent) place function left → IsCounted code function → MayHold code function more
      → left + more ≤ (agent_code_at code agent).stack

-- An agent has room for the frames of a function that is called at a place.
abbrev pub FitsFrames : Code → ℕ → ℕ → Type 0
FitsFrames code agent place = (function more : ℕ) → IsReached code (Agent agent) place → slice_get code.instrs place ≡ Some (instr.Call function)
    → IsCounted code function → MayUse code function more → more ≤ (agent_code_at code agent).frames
