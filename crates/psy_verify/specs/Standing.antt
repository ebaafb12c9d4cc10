-- Where the machine of an agent may stand in code: what it holds is what its ways hold there.
use Rattle.std.specs.Prelude.{◌≡◌, ℕ, ◌+◌, ◌<◌, ◌≤◌, ◌==◌, List, [], ◌∷◌, length, map}
use Rattle.psy_code.specs.declared.code.Code.{Code}
use Rattle.psy_code.specs.Execution.{Copy, Frame, Machine, OpenCall, Run, cells_in_calls, run_code, standing}
use Rattle.psy_code.specs.Views.{View}
use Rattle.psy_tree.specs.declared.unit.Unit.{Unit as Whole}
use Rattle.psy_meaning.specs.Alike.{first_copies, is_there, started}
use Rattle.psy_meaning.specs.CodeWays.{agent_code_at}
use Rattle.psy_flow.specs.Owners.{Agent, Function, Owner}
use Rattle.psy_flow.specs.Heights.{IsHeight}
use Rattle.psy_flow.specs.Needs.{MayHold, MayUse, cells_of, counters_of}

-- The frame has the owner's cells and counters.
pub record HasFrame (code : Code) (owner : Owner) (frame : Frame) : Type 0 where
  pub cells : length frame.cells ≡ cells_of code owner
  pub counters : length frame.counters ≡ counters_of code owner

-- The innermost call is one of some function, at a place with a height of its own above what its callers have left. There is room for
-- whatever it and those that it calls may hold and use, and functions enough below it for as many calls more.
pub record IsWithin (code : Code) (agent place count left : ℕ) (call : OpenCall) (calls : List OpenCall) : Type 0 where
  pub function : ℕ
  pub height : ℕ
  pub reached : IsHeight code (Function function) place height
  pub counted : count ≡ height + left
  pub frame : HasFrame code (Function function) call.frame
  pub holds : (more : ℕ) → MayHold code function more → left + more ≤ (agent_code_at code agent).stack
  pub uses : (more : ℕ) → MayUse code function more → cells_in_calls calls + more ≤ (agent_code_at code agent).frames
  pub deep : function + length calls + 1 ≤ length code.functions

-- An agent's machine may stand at a place with so many operands and these open calls; each of them goes back, with its value, to where the
-- machine may stand without it.
abbrev pub Stands : Code → ℕ → ℕ → ℕ → List OpenCall → Type 0
Stands code agent place count [] = IsHeight code (Agent agent) place count
Stands code agent place count (call ∷ calls) = (left : ℕ) × IsWithin code agent place count left call calls × Stands code agent call.back (left + 1) calls

-- So it stands, with the agent's own frame, and copies of the variables that the agent owns.
pub record IsSafe (unit : Whole) (code : Code) (agent : ℕ) (machine : Machine) : Type 0 where
  pub stands : Stands code agent machine.place (length machine.operands) machine.calls
  pub home : HasFrame code (Agent agent) machine.home
  pub copies : map (λ c. c.variable) machine.copies ≡ map (λ c. c.variable) (first_copies unit agent)

-- The view shows what the unit says: of each variable as many values as its depth, and the messages of each stream that the agent receives.
pub record Shows (unit : Whole) (agent : ℕ) (view : View) : Type 0 where
  pub depths : map length view.pasts ≡ map (λ v. v.depth) unit.variables
  pub streams : map is_there view.messages ≡ map (λ s. s.receiver == agent) unit.streams

-- It has the room that it needs.
pub record HasRoom (code : Code) (agent : ℕ) (machine : Machine) (most_calls : ℕ) : Type 0 where
  pub operands : length machine.operands ≤ (agent_code_at code agent).stack
  pub frames : cells_in_calls machine.calls ≤ (agent_code_at code agent).frames
  pub calls : length machine.calls ≤ most_calls

-- An action of an agent may begin at a point, with this frame of its own, these copies and this view.
pub record MayBegin (unit : Whole) (code : Code) (agent point : ℕ) (frame : Frame) (own : List Copy) (view : View) : Type 0 where
  pub known : point < length (agent_code_at code agent).points
  pub home : HasFrame code (Agent agent) frame
  pub copies : map (λ c. c.variable) own ≡ map (λ c. c.variable) (first_copies unit agent)
  pub shows : Shows unit agent view

-- Its run after so many instructions
abbrev pub run_of : Code → ℕ → ℕ → Frame → List Copy → View → ℕ → Run
run_of code agent point home copies view n = run_code code (agent_code_at code agent) (started (standing (agent_code_at code agent) point home copies) view) n
