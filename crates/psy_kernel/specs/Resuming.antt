-- A run that goes on from a state: what is asked of the state, and what an engine begins with behind its date.
use Rattle.std.specs.Prelude.{◌≡◌, ℕ, ◌≤◌, List, length, Option, Some, None, slice_get, ⊤, ℤ}
use Rattle.psy_budget.specs.Charges.{Charged}
use Rattle.psy_code.specs.declared.code.Code.{Code}
use Rattle.psy_dates.specs.Beginnings.{agent_in}
use Rattle.psy_dates.specs.declared.opening.AgentOpening.{AgentOpening}
use Rattle.psy_dates.specs.declared.opening.Begun.{Begun}
use Rattle.psy_dates.specs.declared.opening.NextAction.{NextAction}
use Rattle.psy_dates.specs.declared.opening.Opening.{Opening as State}
use Rattle.psy_dates.specs.declared.plan.Plan.{Plan}
use Rattle.psy_history.specs.declared.told.Script.{Script}
use Rattle.psy_machine.specs.Stepping.{AgentMachine, HasPlace, IsNew, IsOf, StandsAt}
use Rattle.psy_meaning.specs.CodeWays.{agent_code_at}
use Rattle.psy_kernel.specs.declared.engine.Runner.{Runner}
use Rattle.psy_kernel.specs.declared.engine.Server.{Server}
use Rattle.psy_kernel.specs.Starting.{first_charge, first_server}

-- ---- the state

-- A state has as many agents, variables and streams as the program; its date is no later than the last one of the run; and an agent that has begun
-- has a value for each working copy, and one that starts an action a value for each cell.
pub record HasShapeOf (plan : Plan) (state : State) : Type 0 where
  pub agents : length state.agents ≡ length plan.unit.agents
  pub variables : length state.variables ≡ length plan.unit.variables
  pub streams : length state.streams ≡ length plan.unit.streams
  pub near : state.date ≤ plan.until
  pub copies : (agent : ℕ) (begun : Begun) → (agent_in state agent).begun ≡ Some begun
      → length begun.copies ≡ length (agent_code_at plan.code agent).copies
  pub cells : (agent : ℕ) (begun : Begun) (action : NextAction) → (agent_in state agent).begun ≡ Some begun → begun.action ≡ Some action
      → length action.cells ≡ length (agent_code_at plan.code agent).cells

-- ---- an agent

-- How many actions an agent had before the one that it starts: none where it starts none
abbrev pub number_by : Option NextAction → ℕ
number_by None = 0
number_by (Some action) = action.number

-- The same of an agent that may not have begun
abbrev pub number_of : Option Begun → ℕ
number_of None = 0
number_of (Some begun) = number_by begun.action

-- The charge of an agent that had so many actions
abbrev pub charge_behind : Script → ℕ → ℕ → Charged
charge_behind script agent started = record (first_charge script agent) { started = started }

-- The code has a place for the action that an agent starts.
abbrev pub CanStart : Code → ℕ → List ℤ → Option NextAction → Type 0
CanStart code agent copies None = ⊤
CanStart code agent copies (Some action) = HasPlace code agent action.point action.cells copies

abbrev pub CanBegin : Code → ℕ → Option Begun → Type 0
CanBegin code agent None = ⊤
CanBegin code agent (Some begun) = CanStart code agent begun.copies begun.action

-- The machine of an agent that starts this action with these values of its variables: a new one where it starts none
abbrev pub IsMachineBy : Code → ℕ → List ℤ → Option NextAction → AgentMachine → Type 0
IsMachineBy code agent copies None machine = IsNew code agent machine
IsMachineBy code agent copies (Some action) machine = StandsAt code agent action.point action.cells copies machine

-- The same of an agent that may not have begun
abbrev pub IsMachineOf : Code → ℕ → Option Begun → AgentMachine → Type 0
IsMachineOf code agent None machine = IsNew code agent machine
IsMachineOf code agent (Some begun) machine = IsMachineBy code agent begun.copies begun.action machine

-- What an agent has behind the date of a state, before its action is charged
pub record IsRunnerBehind (code : Code) (script : Script) (agent : ℕ) (known : AgentOpening) (runner : Runner) : Type 0 where
  pub machine : IsMachineOf code agent known.begun runner.machine
  pub of_code : IsOf code runner.machine
  pub charge : runner.charge ≡ charge_behind script agent (number_of known.begun)
  pub figure : runner.figure ≡ record { count = known.count; slack = known.slack }

-- The same of each agent
abbrev pub AreBehind : Code → Script → List AgentOpening → List Runner → Type 0
AreBehind code script agents runners = (agent : ℕ) (runner : Runner) → slice_get runners agent ≡ Some runner
    → (known : AgentOpening) → slice_get agents agent ≡ Some known → IsRunnerBehind code script agent known runner

-- ---- a processor

-- A processor that did so many cycles, for which none of so many agents waits, where so many orders are in force
abbrev pub server_behind : ℕ → ℕ → ℕ → Server
server_behind agents passed cycles = record (first_server agents passed) { cycles = cycles }
