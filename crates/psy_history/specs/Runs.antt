-- What a run of any code keeps: the premise of the laws of a run. It speaks of no statement.
use Rattle.std.specs.Prelude.{◌≡◌, ℕ, ◌<◌, ◌≤◌, false, length, FitsSigned, ⊤}
use Rattle.std.specs.Int.{w32}
use Rattle.std.specs.List.{All, Contains}
use Rattle.psy_code.specs.declared.code.Code.{Code}
use Rattle.psy_code.specs.Execution.{Run, RunState, Running, RanTo, TrappedBy, NoRun, call_of, run_code}
use Rattle.psy_code.specs.Views.{View}
use Rattle.psy_history.specs.Actions.{System, timing}
use Rattle.psy_meaning.specs.Alike.{IsViewOf, started}
use Rattle.psy_meaning.specs.CodeWays.{agent_code_at}
use Rattle.psy_history.specs.Executors.{Carried, by_code, carried_by, machine_at}
use Rattle.psy_tree.specs.Parts.{agent_at}
use Rattle.psy_meaning.specs.Timing.{MayStart, budget_at, following}
use Rattle.psy_meaning.specs.Units.{IsBare}
use Rattle.psy_history.specs.Compiled.{AreInputs}
use Rattle.psy_history.specs.Openings.{IsSound, MayCarry}
use Rattle.psy_history.specs.Regular.{MayAsk}
use Rattle.psy_meaning.specs.KnownWays.{HasMost, Ways, is_sent}
use Rattle.psy_history.specs.Ways.{SendsAtMost}

-- The run of an agent's code from a point, with what the agent carries and sees, after so many instructions
abbrev pub run_from : Code → ℕ → ℕ → Carried → View → ℕ → Run
run_from code agent point carried view n = run_code code (agent_code_at code agent) (started (machine_at (agent_code_at code agent) point carried) view) n

-- How a run from a point of an agent stands after some instructions. Where it still runs, there is a point that follows such that no more
-- was sent than on a way to it; where it ended, its point is one, and the agent goes on with what it may carry. It is never stuck.
abbrev pub StandsWell : System → Ways → Code → ℕ → ℕ → Run → Type 0
StandsWell s ways code agent point (Running t) =
    (to : ℕ) × Contains (following (timing s agent) point) to × SendsAtMost ways agent point to t.deeds.sends
StandsWell s ways code agent point (RanTo to t) =
    Contains (following (timing s agent) point) to × SendsAtMost ways agent point to t.deeds.sends × MayCarry s.unit code agent (carried_by t.machine)
StandsWell s ways code agent point (TrappedBy kind t) = ⊤
StandsWell s ways code agent point NoRun = ⊥

-- The run of an agent's code from a point stands well after each number of instructions up to the point's budget, and each instruction
-- within the budget asks what it may.
pub record GoesWell (s : System) (ways : Ways) (code : Code) (agent point : ℕ) (carried : Carried) (view : View) : Type 0 where
  pub stands : (n : ℕ) → n ≤ budget_at (timing s agent) point → StandsWell s ways code agent point (run_from code agent point carried view n)
  pub asks : (n : ℕ) (t : RunState) → n < budget_at (timing s agent) point → run_from code agent point carried view n ≡ Running t
      → MayAsk ways s.unit agent point (call_of code t.machine)

-- A system that a code executes, whose runs go well by these ways
pub record IsRun (s : System) (ways : Ways) (code : Code) : Type 0 where
  pub bare : IsBare s.unit
  pub inits : All (λ v. FitsSigned w32 v.init) s.unit.variables
  -- what follows a point is a point of an `advance`,
  pub points : (agent point to : ℕ) → agent < length s.unit.agents → Contains (following (timing s agent) point) to
      → (1 ≤ to) × (to < length (agent_at s.unit agent).points)
  -- to which no way sends where nobody does
  pub unsent : (agent point to stream : ℕ) → agent < length s.unit.agents → point < length (agent_at s.unit agent).points
      → Contains (following (timing s agent) point) to → is_sent ways stream ≡ false → HasMost ways agent point to stream 0
  pub coded : s.executor ≡ by_code code
  pub agents : length code.agents ≡ length s.unit.agents
  pub inputs : AreInputs s.unit s.inputs
  pub opened : IsSound s ways code
  -- from wherever an action may start, with whatever it may carry and see
  pub runs : (agent point start : ℕ) (carried : Carried) (view : View) → agent < length s.unit.agents → MayStart (timing s agent) point start
      → MayCarry s.unit code agent carried → IsViewOf s.unit agent view → GoesWell s ways code agent point carried view
