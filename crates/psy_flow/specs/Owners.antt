-- Whose code a place is, and that ways stay in the code and apart.
use Rattle.std.specs.Prelude.{◌≡◌, ℕ, ◌<◌, [], length, get_or, Some, slice_get}
use Rattle.psy_code.specs.declared.code.Code.{Code}
use Rattle.psy_code.specs.declared.code.FunctionCode.{FunctionCode}
use Rattle.psy_code.specs.declared.instr.Instr.{Instr}
use Rattle.psy_meaning.specs.CodeWays.{GoesOn, IsPassed, agent_code_at}

-- Whose code it may be: an agent's or a function's, by number
pub data Owner : Type 0 where
  Agent : (number : ℕ) → Owner
  Function : (number : ℕ) → Owner

-- The code of a function: one without a frame where there is none
abbrev pub function_code_at : Code → ℕ → FunctionCode
function_code_at code function = get_or code.functions function (record { entry = 0; params = 0; locals = []; counters = 0 })

-- A point of the agent, or the function, begins at the place.
abbrev pub Begins : Code → Owner → ℕ → Type 0
Begins code (Agent number) place = (point : ℕ) × (slice_get (agent_code_at code number).points point ≡ Some place)
Begins code (Function number) place = (number < length code.functions) × (place ≡ (function_code_at code number).entry)

-- A way from where the owner begins comes to the place. A call is passed over.
abbrev pub IsReached : Code → Owner → ℕ → Type 0
IsReached code owner place = (start : ℕ) × Begins code owner start × IsPassed code.instrs start place

-- Where a point or a function begins there, the place is in the code, and so is each place where a way goes on from there.
pub record IsInside (code : Code) (place : ℕ) : Type 0 where
  pub start : (owner : Owner) → Begins code owner place → place < length code.instrs
  pub next : (owner : Owner) (i : Instr) (next : ℕ) → IsReached code owner place → slice_get code.instrs place ≡ Some i → GoesOn i place next
      → next < length code.instrs

-- No two owners reach the place.
abbrev pub IsApart : Code → ℕ → Type 0
IsApart code place = (owner other : Owner) → IsReached code owner place → IsReached code other place → owner ≡ other
