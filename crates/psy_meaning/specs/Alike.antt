-- When code acts as the statements of a unit do.
use Rattle.std.specs.Prelude.{◌≡◌, ℕ, ◌+◌, ◌<◌, ◌==◌, if◌then◌else◌, List, [], ◌∷◌, ◌++◌, map, length, replicate, Option, Some, None, Bool, true}
use Rattle.std.specs.Prelude.{false, slice_get, ℤ, FitsSigned, ⊤}
use Rattle.std.specs.Int.{w32}
use Rattle.std.specs.List.{All, flat_map}
use Rattle.psy_arith.specs.declared.width.Width.{Width}
use Rattle.psy_arith.specs.Widths.{of_type}
use Rattle.psy_tree.specs.declared.unit.Unit.{Unit as Whole}
use Rattle.psy_tree.specs.declared.unit.VarDecl.{VarDecl}
use Rattle.psy_tree.specs.declared.unit.AgentDecl.{AgentDecl}
use Rattle.psy_code.specs.declared.code.Code.{Code}
use Rattle.psy_code.specs.declared.code.AgentCode.{AgentCode}
use Rattle.psy_code.specs.Views.{View, nothing_done}
use Rattle.psy_code.specs.Execution.{Machine, Frame, Copy, Run, RunState, RanTo, TrappedBy, copy_from, run_code, standing}
use Rattle.psy_meaning.specs.States.{Store, State, Ended, Trapped, Outcome, Halts}
use Rattle.psy_meaning.specs.Statements.{act}
use Rattle.psy_meaning.specs.Rest.{rest}

-- ---- what a unit's agent has

-- The variables that an agent owns, in order, each with its first value
abbrev pub owned_copy : ℕ → ℕ → VarDecl → Option ℕ → List Copy
owned_copy agent number v None = []
owned_copy agent number v (Some owner) = if owner == agent then record { variable = number; value = v.init } ∷ [] else []

-- Those of these variables, counted from a number on
abbrev pub owned_from : ℕ → ℕ → List VarDecl → List Copy
owned_from agent number [] = []
owned_from agent number (v ∷ rest) = owned_copy agent number v v.owner ++ owned_from agent (number + 1) rest

-- The working copies that an agent begins with.
abbrev pub first_copies : Whole → ℕ → List Copy
first_copies unit agent = owned_from agent 0 unit.variables

-- The cells that an agent's variables and arrays begin with.
abbrev pub first_slots : AgentDecl → List (List ℤ)
first_slots agent = map (λ s. replicate s.cells s.init) agent.slots

-- The store that an agent begins with.
abbrev pub first_store : Whole → ℕ → AgentDecl → Store
first_store unit number agent = record { slots = first_slots agent; copies = first_copies unit number }

-- Numbers of 32 bits
abbrev pub AllFit : List ℤ → Type 0
AllFit values = All (FitsSigned w32) values

-- Each cell of a slot has the range of the slot's type.
abbrev pub FitSlots : List Width → List (List ℤ) → Type 0
FitSlots widths slots = (slot : ℕ) (width : Width) (cells : List ℤ) → slice_get widths slot ≡ Some width → slice_get slots slot ≡ Some cells
    → All (FitsSigned (of_type width)) cells

-- A store of the agent: its slots, with values of their types, and its copies, with values of 32 bits
pub record IsStoreOf (unit : Whole) (number : ℕ) (agent : AgentDecl) (store : Store) : Type 0 where
  pub slots : map length store.slots ≡ map length (first_slots agent)
  pub values : FitSlots (map (λ s. s.width) agent.slots) store.slots
  pub variables : map (λ c. c.variable) store.copies ≡ map (λ c. c.variable) (first_copies unit number)
  pub copies : All (λ c. FitsSigned w32 c.value) store.copies

-- There are messages to see, be they none.
abbrev pub is_there : Option (List ℤ) → Bool
is_there None = false
is_there (Some messages) = true

-- The messages, where there are any to see, have values of 32 bits.
abbrev pub MessagesFit : Option (List ℤ) → Type 0
MessagesFit None = ⊤
MessagesFit (Some messages) = AllFit messages

-- A view of the agent: of each variable as many values as its depth, and the messages of each stream
-- that it receives
pub record IsViewOf (unit : Whole) (number : ℕ) (view : View) : Type 0 where
  pub depths : map length view.pasts ≡ map (λ v. v.depth) unit.variables
  pub values : All AllFit view.pasts
  pub streams : map is_there view.messages ≡ map (λ s. s.receiver == number) unit.streams
  pub messages : All MessagesFit view.messages

-- ---- alike

-- The machine holds the store, and did the same.
pub record SameAs (state : State) (ran : RunState) : Type 0 where
  pub cells : ran.machine.home.cells ≡ flat_map (λ cells. cells) state.store.slots
  pub copies : ran.machine.copies ≡ state.store.copies
  pub deeds : ran.deeds ≡ state.deeds

-- The run ends as the action does, with its last instruction: the cost of the action is the number of
-- its instructions.
abbrev pub EndsAs : Outcome → (ℕ → Run) → Type 0
EndsAs (Halts (Ended point s)) after = (t : RunState) × (after s.deeds.steps ≡ RanTo point t) × SameAs s t
EndsAs (Halts (Trapped kind s)) after = (t : RunState) × (after s.deeds.steps ≡ TrappedBy kind t) × SameAs s t
EndsAs _ after = ⊥

-- The agent's own frame, with the cells of a store and any counters
abbrev pub home_holding : Store → List ℕ → Frame
home_holding store counters = record { cells = flat_map (λ cells. cells) store.slots; counters = counters }

-- An action that has just begun, by the statements.
abbrev pub begun : Store → View → State
begun store view = record { store = store; view = view; deeds = nothing_done }

-- An action that has just begun, by the code.
abbrev pub started : Machine → View → RunState
started machine view = record { machine = machine; view = view; deeds = nothing_done }

-- An agent's code begins as the agent does, and acts as its statements from each point.
pub record AgentAlike (unit : Whole) (code : Code) (number : ℕ) (agent : AgentDecl) (its : AgentCode) : Type 0 where
  pub points : length its.points ≡ length agent.points
  pub cells : its.cells ≡ flat_map (λ cells. cells) (first_slots agent)
  pub copies : map copy_from its.copies ≡ first_copies unit number
  -- From each point, with each store and view, and whatever the counters hold
  pub acts : (point : ℕ) (store : Store) (view : View) (counters : List ℕ) → point < length agent.points → IsStoreOf unit number agent store
      → IsViewOf unit number view → length counters ≡ its.counters
      → EndsAs (act unit.functions (rest agent.stmts point) (begun store view))
      (run_code code its (started (standing its point (home_holding store counters) store.copies) view))

-- The code acts as the statements of the unit.
pub record ActsAlike (unit : Whole) (code : Code) : Type 0 where
  pub agents : length code.agents ≡ length unit.agents
  pub each : (number : ℕ) (agent : AgentDecl) (its : AgentCode) → slice_get unit.agents number ≡ Some agent → slice_get code.agents number ≡ Some its
      → AgentAlike unit code number agent its
