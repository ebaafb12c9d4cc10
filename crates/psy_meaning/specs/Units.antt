-- What is asked of a unit by those who read it.
use Rattle.std.specs.Prelude.{◌≡◌, ℕ, ◌+◌, ◌<◌, ◌≤◌, List, [], ◌∷◌, ◌++◌, map, length, Option, Some, None, slice_get, ⊤}
use Rattle.std.specs.List.{All}
use Rattle.psy_base.specs.declared.limits.TheConstants.{ADVANCE, AGENTS, BUDGET, CELLS, CLOCKS, DEPTH, FUNCTIONS, KEEP, NAMES, POINTS, PROCESSORS, QUANTUM}
use Rattle.psy_base.specs.declared.limits.TheConstants.{STREAMS, UNIT_SIZE, VARIABLES, WORD_BYTES}
use Rattle.psy_clock.specs.Dates.{IsClock}
use Rattle.psy_tree.specs.declared.raw.Raw.{Raw}
use Rattle.psy_tree.specs.declared.unit.Unit.{Unit as Whole}
use Rattle.psy_tree.specs.declared.unit.VarDecl.{VarDecl}
use Rattle.psy_tree.specs.declared.unit.StreamDecl.{StreamDecl}
use Rattle.psy_tree.specs.declared.unit.FunctionDecl.{FunctionDecl}
use Rattle.psy_tree.specs.declared.unit.Slots.{Slots}
use Rattle.psy_tree.specs.declared.unit.Point.{Point}
use Rattle.psy_tree.specs.declared.unit.AgentDecl.{AgentDecl}
use Rattle.psy_tree.specs.Stands.{Stands}
use Rattle.psy_meaning.specs.Sizes.{unit_size}
use Rattle.psy_tree.specs.Lexemes.{IsWord}

-- A number within a range, both ends included
abbrev pub Within : ℕ → ℕ → ℕ → Type 0
Within least most n = (least ≤ n) × (n ≤ most)

-- A name: a word of at most 32 bytes
abbrev pub IsName : List ℕ → Type 0
IsName name = IsWord name × (length name ≤ WORD_BYTES)

-- The agent that owns a variable, where it has an owner, is one of so many.
abbrev pub OwnedWithin : ℕ → Option ℕ → Type 0
OwnedWithin agents None = ⊤
OwnedWithin agents (Some owner) = owner < agents

-- A temporal variable or input names what exists, and keeps its ranges.
pub record IsBareVariable (unit : Whole) (v : VarDecl) : Type 0 where
  pub name : IsName v.name
  pub owner : OwnedWithin (length unit.agents) v.owner
  pub clock : v.clock < length unit.clocks
  pub depth : Within 1 DEPTH v.depth

-- A stream names what exists, and keeps its ranges.
pub record IsBareStream (unit : Whole) (s : StreamDecl) : Type 0 where
  pub name : IsName s.name
  pub receiver : s.receiver < length unit.agents
  pub clock : s.clock < length unit.clocks
  pub keep : Within 1 KEEP s.keep

-- A function has at most 64 parameters and locals.
pub record IsBareFunction (f : FunctionDecl) : Type 0 where
  pub name : IsName f.name
  pub slots : f.params + length f.locals ≤ NAMES

-- A variable or array of an agent has 1 to 256 cells.
pub record IsBareSlot (s : Slots) : Type 0 where
  pub name : IsName s.name
  pub cells : Within 1 CELLS s.cells

-- A point of an agent's `advance`
pub record IsBarePoint (unit : Whole) (p : Point) : Type 0 where
  pub count : Within 1 ADVANCE p.count
  pub clock : p.clock < length unit.clocks
  pub budget : Within 1 BUDGET p.budget

-- Point 0 is the head of the body.
abbrev pub HasHead : AgentDecl → List Point → (Point → Type 0) → Type 0
HasHead a [] lawful = ⊥
HasHead a (head ∷ rest) lawful = (head ≡ record { count = 0; clock = a.clock; budget = a.budget }) × All lawful rest

-- An agent names what exists, and keeps its ranges and limits.
pub record IsBareAgent (unit : Whole) (a : AgentDecl) : Type 0 where
  pub name : IsName a.name
  pub clock : a.clock < length unit.clocks
  pub processor : a.processor < PROCESSORS
  pub budget : Within 1 BUDGET a.budget
  pub slots : All IsBareSlot a.slots
  pub names : length a.slots ≤ NAMES
  pub points : HasHead a a.points (IsBarePoint unit)
  pub limit : length a.points ≤ POINTS

-- The names of all declarations
abbrev pub global_names : Whole → List (List ℕ)
global_names unit =
    unit.clock_names ++ (map (λ v. v.name) unit.variables ++
    (map (λ s. s.name) unit.streams ++ (map (λ f. f.name) unit.functions ++ map (λ a. a.name) unit.agents)))

-- No two names at different places are the same.
abbrev pub AllDiffer : List (List ℕ) → Type 0
AllDiffer names = (i j : ℕ) (name : List ℕ) → slice_get names i ≡ Some name → slice_get names j ≡ Some name → i ≡ j

-- What a unit's declarations keep: names, numbers and limits. Nothing is said of its statements.
pub record IsBare (unit : Whole) : Type 0 where
  pub quantum : Within 1 QUANTUM unit.quantum
  pub clocks : All IsClock unit.clocks
  pub clock_names : All IsName unit.clock_names
  pub clocks_named : length unit.clock_names ≡ length unit.clocks
  pub clock_limit : length unit.clocks ≤ CLOCKS
  pub variables : All (IsBareVariable unit) unit.variables
  pub variable_limit : length unit.variables ≤ VARIABLES
  pub streams : All (IsBareStream unit) unit.streams
  pub stream_limit : length unit.streams ≤ STREAMS
  pub functions : All IsBareFunction unit.functions
  pub function_limit : length unit.functions ≤ FUNCTIONS
  pub agents : All (IsBareAgent unit) unit.agents
  pub agent_limit : length unit.agents ≤ AGENTS
  pub names : AllDiffer (global_names unit)

-- A unit that a program's tree stands for, of a size that a text can have.
pub record IsOfText (unit : Whole) : Type 0 where
  pub bare : IsBare unit
  pub text : (raw : Raw) × Stands unit raw
  pub size : unit_size unit ≤ UNIT_SIZE
