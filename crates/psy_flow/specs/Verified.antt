-- When code of any origin is verified, for the variables, streams and clocks of a unit.
use Rattle.std.specs.Prelude.{◌≡◌, ◌⊎◌, ℕ, ◌+◌, ◌<◌, ◌≤◌, List, length, Some, slice_get, ⊤}
use Rattle.psy_base.specs.declared.limits.TheConstants.{AFTER}
use Rattle.psy_code.specs.declared.code.Code.{Code}
use Rattle.psy_code.specs.declared.instr.Instr.{Instr}
use Rattle.psy_code.specs.declared.instr.Instr.TheVariants as instr
use Rattle.psy_tree.specs.declared.unit.StreamDecl.{StreamDecl}
use Rattle.psy_tree.specs.declared.unit.Unit.{Unit as Whole}
use Rattle.psy_tree.specs.declared.unit.VarDecl.{VarDecl}
use Rattle.psy_meaning.specs.CodeWays.{IsCodeWay, agent_code_at}
use Rattle.psy_flow.specs.Owners.{Agent, Function, IsApart, IsInside, IsReached, Owner}
use Rattle.psy_flow.specs.Heights.{IsBalanced}
use Rattle.psy_flow.specs.Needs.{FitsFrames, FitsStack, cells_of, counters_of}

-- ---- what an instruction says

-- Its cells and its counter lie in the owner's frame.
abbrev pub IsFramed : Code → Owner → Instr → Type 0
IsFramed code owner (instr.Load cell) = cell < cells_of code owner
IsFramed code owner (instr.Store cell) = cell < cells_of code owner
IsFramed code owner (instr.LoadCell base cells) = base + cells ≤ cells_of code owner
IsFramed code owner (instr.StoreCell base cells) = base + cells ≤ cells_of code owner
IsFramed code owner (instr.Zero counter) = counter < counters_of code owner
IsFramed code owner (instr.Guard counter bound) = counter < counters_of code owner
IsFramed code owner _ = ⊤

-- There is the variable, and an agent owns it.
abbrev pub Owns : Whole → Owner → ℕ → Type 0
Owns unit (Agent number) variable = (decl : VarDecl) × (slice_get unit.variables variable ≡ Some decl) × (decl.owner ≡ Some number)
Owns unit (Function number) variable = variable < length unit.variables

-- There is the stream, and an agent receives it.
abbrev pub Hears : Whole → Owner → ℕ → Type 0
Hears unit (Agent number) stream = (decl : StreamDecl) × (slice_get unit.streams stream ≡ Some decl) × (decl.receiver ≡ number)
Hears unit (Function number) stream = stream < length unit.streams

-- There is the variable, and it can be looked back so far.
abbrev pub Reaches : Whole → ℕ → ℕ → Type 0
Reaches unit variable back = (decl : VarDecl) × (slice_get unit.variables variable ≡ Some decl) × (back < decl.depth)

-- What it names is there: copies that an agent owns, looks below the depth, streams that an agent receives, functions, and sends that aren't
-- delayed too long.
abbrev pub IsNamed : Whole → Code → Owner → Instr → Type 0
IsNamed unit code owner (instr.LoadCopy variable) = Owns unit owner variable
IsNamed unit code owner (instr.StoreCopy variable) = Owns unit owner variable
IsNamed unit code owner (instr.Past variable back) = Reaches unit variable back
IsNamed unit code owner (instr.Ready stream) = Hears unit owner stream
IsNamed unit code owner (instr.Take stream) = Hears unit owner stream
IsNamed unit code owner (instr.Send stream after clock) = (stream < length unit.streams) × (clock < length unit.clocks) × (after ≤ AFTER)
IsNamed unit code owner (instr.Call function) = function < length code.functions
IsNamed unit code owner _ = ⊤

-- A function calls those above it, and neither asks anything of the world nor ends the action.
abbrev pub IsOrdered : Owner → Instr → Type 0
IsOrdered (Agent number) i = ⊤
IsOrdered (Function number) (instr.Call function) = function < number
IsOrdered (Function number) (instr.LoadCopy variable) = ⊥
IsOrdered (Function number) (instr.StoreCopy variable) = ⊥
IsOrdered (Function number) (instr.Past variable back) = ⊥
IsOrdered (Function number) (instr.Ready stream) = ⊥
IsOrdered (Function number) (instr.Take stream) = ⊥
IsOrdered (Function number) (instr.Send stream after clock) = ⊥
IsOrdered (Function number) (instr.Advance point) = ⊥
IsOrdered (Function number) _ = ⊤

-- An agent's `Advance` names one of its points behind the first, whose place is the next one.
abbrev pub IsLed : Code → Owner → ℕ → Instr → Type 0
IsLed code (Agent number) place (instr.Advance point) = (1 ≤ point) × (slice_get (agent_code_at code number).points point ≡ Some (place + 1))
IsLed code owner place _ = ⊤

-- A way from the place goes on to an `Advance`.
abbrev pub HasEnd : List Instr → ℕ → Type 0
HasEnd instrs place = (point : ℕ) × (places : List ℕ) × IsCodeWay instrs point place places

-- What holds of the instruction at the place, for each owner that reaches it
abbrev pub Where : Code → ℕ → (Owner → Instr → Type 0) → Type 0
Where code place Says = (owner : Owner) (i : Instr) → IsReached code owner place → slice_get code.instrs place ≡ Some i → Says owner i

-- ---- verified

-- Verified code. No way leaves it, no place has two owners, and an agent's ways have one height at each place, at which what is popped is there,
-- and room for all that they and the functions called hold. Cells and counters lie in their frames, what is named is there, functions
-- call those above them and ask nothing, and each way of an agent goes on to an `Advance`.
pub record IsVerified (unit : Whole) (code : Code) : Type 0 where
  pub inside : (place : ℕ) → IsInside code place
  pub apart : (place : ℕ) → IsApart code place
  pub balanced : (place : ℕ) (owner : Owner) → IsBalanced code owner place
  pub stack : (place agent : ℕ) → FitsStack code agent place
  pub framed : (place : ℕ) → Where code place (IsFramed code)
  pub frames : (place agent : ℕ) → FitsFrames code agent place
  pub named : (place : ℕ) → Where code place (IsNamed unit code)
  pub ordered : (place : ℕ) → Where code place IsOrdered
  pub leads : (place : ℕ) → Where code place (λ owner. IsLed code owner place)
  pub ends : (place agent : ℕ) → IsReached code (Agent agent) place → HasEnd code.instrs place

-- ---- faults

-- The rules of verified code
pub data Rule : Type 0 where
  Inside : Rule
  Apart : Rule
  Balanced : Rule
  Framed : Rule
  Named : Rule
  Ordered : Rule
  Led : Rule

-- Their numbers
abbrev pub number_of : Rule → ℕ
number_of Inside = 1
number_of Apart = 2
number_of Balanced = 3
number_of Framed = 4
number_of Named = 5
number_of Ordered = 6
number_of Led = 7

-- What a rule says of a place
abbrev pub Keeps : Whole → Code → ℕ → Rule → Type 0
Keeps unit code place Inside = IsInside code place
Keeps unit code place Apart = IsApart code place
Keeps unit code place Balanced = ((owner : Owner) → IsBalanced code owner place) × ((agent : ℕ) → FitsStack code agent place)
Keeps unit code place Framed = Where code place (IsFramed code) × ((agent : ℕ) → FitsFrames code agent place)
Keeps unit code place Named = Where code place (IsNamed unit code)
Keeps unit code place Ordered = Where code place IsOrdered
Keeps unit code place Led = Where code place (λ owner. IsLed code owner place) × ((agent : ℕ) → IsReached code (Agent agent) place → HasEnd code.instrs place)

-- The place breaks the rule of this number.
abbrev pub IsFault : Whole → Code → ℕ → ℕ → Type 0
IsFault unit code number place = (rule : Rule) × (number ≡ number_of rule) × (Keeps unit code place rule → ⊥)

-- By place, then by number
abbrev pub ComesBefore : ℕ → ℕ → ℕ → ℕ → Type 0
ComesBefore place number other_place other_number = (place < other_place) ⊎ ((place ≡ other_place) × (number < other_number))

-- The least fault by place, then number: what comes before it keeps the rules.
pub record IsLeastFault (unit : Whole) (code : Code) (number place : ℕ) : Type 0 where
  pub present : IsFault unit code number place
  pub least : (before : ℕ) (rule : Rule) → ComesBefore before (number_of rule) place number → Keeps unit code before rule
