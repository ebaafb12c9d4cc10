-- Where an agent's machine stands before, in and after an action of the agent's code.
use Rattle.std.specs.Prelude.{◌≡◌, ℕ, ◌<◌, List, map, length, Some, slice_get, ⊤}
use Rattle.std.specs.List.{All}
use Rattle.psy_code.specs.declared.code.Code.{Code}
use Rattle.psy_code.specs.declared.code.AgentCode.{AgentCode}
use Rattle.psy_code.specs.Views.{View, Deeds}
use Rattle.psy_code.specs.Execution.{Machine, RunState, Running, RanTo, run_code, standing}
use Rattle.psy_code.specs.Lasting.{IsOver, Lasted}
use Rattle.psy_tree.specs.declared.unit.Unit.{Unit as Whole}
use Rattle.psy_tree.specs.declared.unit.AgentDecl.{AgentDecl}
use Rattle.psy_tree.specs.declared.unit.VarDecl.{VarDecl}
use Rattle.psy_meaning.specs.Alike.{IsStoreOf, first_copies, home_holding}
use Rattle.psy_meaning.specs.Kept.{IsSentOf}
use Rattle.psy_meaning.specs.States.{Store}
use Rattle.psy_machine.specs.declared.machine.Step.{Step}
use Rattle.psy_machine.specs.declared.machine.Step.TheVariants as step

-- The machine stands at a point of the agent and holds a store of it.
pub record StandsIn (unit : Whole) (number : ℕ) (its : AgentCode) (point : ℕ) (m : Machine) : Type 0 where
  pub agent : AgentDecl
  pub store : Store
  pub counters : List ℕ
  pub of_unit : slice_get unit.agents number ≡ Some agent
  pub known : point < length agent.points
  pub holds : IsStoreOf unit number agent store
  pub counted : length counters ≡ its.counters
  pub stands : m ≡ standing its point (home_holding store counters) store.copies

-- Between two actions: the machine of an agent stands at a point of it.
abbrev pub Rests : Whole → Code → ℕ → Machine → Type 0
Rests unit code number m = (its : AgentCode) × (slice_get code.agents number ≡ Some its) × (point : ℕ) × StandsIn unit number its point m

-- The machine has working copies of the variables that the agent owns.
abbrev pub HasCopies : Whole → ℕ → Machine → Type 0
HasCopies unit number m = map (λ c. c.variable) m.copies ≡ map (λ c. c.variable) (first_copies unit number)

-- An action of the agent from a state: it is over after some instructions, sends what the agent may, and keeps the agent's
-- copies; where it ends, the machine stands at a point.
pub record IsAction (unit : Whole) (code : Code) (number : ℕ) (its : AgentCode) (start last : RunState) (count : ℕ) : Type 0 where
  pub of_code : slice_get code.agents number ≡ Some its
  pub over : IsOver (run_code code its start count) last
  pub sends : All (IsSentOf unit) last.deeds.sends
  pub copies : HasCopies unit number last.machine
  pub ends : (point : ℕ) → run_code code its start count ≡ RanTo point last → StandsIn unit number its point last.machine

-- In an action: some of its instructions are executed, and not all; it goes on from this machine with this view.
pub record IsUnderWay (unit : Whole) (code : Code) (number : ℕ) (m : Machine) (view : View) : Type 0 where
  pub its : AgentCode
  pub start : RunState
  pub last : RunState
  pub count : ℕ
  pub action : IsAction unit code number its start last count
  pub lasted : Lasted code its start count last
  pub executed : ℕ
  pub early : executed < lasted.steps
  pub deeds : Deeds
  pub running : run_code code its start executed ≡ Running (record { machine = m; view = view; deeds = deeds })

-- After an instruction: the action goes on, or the copies are kept, and where it ended, the next one can begin.
abbrev pub IsBehind : Whole → Code → ℕ → Step → Machine → View → Type 0
IsBehind unit code number step.Went m view = IsUnderWay unit code number m view
IsBehind unit code number (step.Ended point) m view = HasCopies unit number m × Rests unit code number m
IsBehind unit code number (step.Trapped kind) m view = HasCopies unit number m

-- After an action: where it ended, the next one can begin.
abbrev pub RestsAfter : Whole → Code → ℕ → Step → Machine → Type 0
RestsAfter unit code number (step.Ended point) m = Rests unit code number m
RestsAfter unit code number answer m = ⊤

-- The agent owns the variable.
abbrev pub Owns : Whole → ℕ → ℕ → Type 0
Owns unit number variable = (v : VarDecl) × (slice_get unit.variables variable ≡ Some v) × (v.owner ≡ Some number)
