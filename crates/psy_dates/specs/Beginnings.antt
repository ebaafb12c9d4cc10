-- Where a run of a plan begins: at date 0, or behind the date of a state.
use Rattle.std.specs.Prelude.{ℕ, ◌+◌, Bool, false, List, [], ◌∷◌, Option, Some, None, option_map, slice_get, get_or, ℤ}
use Rattle.std.specs.Option.{is_none}
use Rattle.psy_code.specs.Execution.{Copy}
use Rattle.psy_code.specs.Views.{found_in}
use Rattle.psy_history.specs.Actions.{Next, Opening, first_action}
use Rattle.psy_history.specs.Executors.{Carried, by_code, copy_in}
use Rattle.psy_meaning.specs.Alike.{first_copies}
use Rattle.psy_meaning.specs.Timing.{Timing}
use Rattle.psy_tree.specs.Parts.{variable_at}
use Rattle.psy_dates.specs.declared.opening.AgentOpening.{AgentOpening}
use Rattle.psy_dates.specs.declared.opening.Begun.{Begun}
use Rattle.psy_dates.specs.declared.opening.NextAction.{NextAction}
use Rattle.psy_dates.specs.declared.opening.Opening.{Opening as State}
use Rattle.psy_dates.specs.declared.opening.StreamOpening.{StreamOpening}
use Rattle.psy_dates.specs.declared.opening.VarOpening.{VarOpening}
use Rattle.psy_dates.specs.declared.plan.Plan.{Plan}
use Rattle.psy_dates.specs.declared.seat.Phase.TheVariants as phase
use Rattle.psy_dates.specs.declared.seat.Seat.{Seat}
use Rattle.psy_dates.specs.Messages.{nowhere}
use Rattle.psy_dates.specs.Moves.{begun_at, seat_then}
use Rattle.psy_dates.specs.Plans.{whole_of}

-- ---- an agent

-- Working copies with these values, one each
abbrev pub with_values : List Copy → List ℤ → List Copy
with_values [] values = []
with_values (c ∷ copies) [] = []
with_values (c ∷ copies) (value ∷ values) = record c { value = value } ∷ with_values copies values

-- What an agent carries with these cells and these values of the variables that it owns
abbrev pub carried_with : Plan → ℕ → List ℤ → List ℤ → Carried
carried_with plan agent cells values = record { cells = cells; copies = with_values (first_copies plan.unit agent) values }

-- The action that it starts at a date, with these values of the variables that it owns
abbrev pub next_at : Plan → ℕ → ℕ → List ℤ → NextAction → Next
next_at plan date agent copies action =
    record { number = action.number; point = action.point; start = date; carried = carried_with plan agent action.cells copies }

-- What it starts at a date, where it has begun: a silent agent starts nothing.
abbrev pub next_of : Plan → ℕ → ℕ → Begun → Option Next
next_of plan date agent begun = option_map (next_at plan date agent begun.copies) begun.action

-- Where its next action starts behind a date: at that date, or, where it hasn't begun, at its first one
abbrev pub starts_by : Plan → ℕ → ℕ → Option Begun → Option Next
starts_by plan date agent None = Some (first_action plan.unit plan.nexts (by_code plan.code) agent)
starts_by plan date agent (Some begun) = next_of plan date agent begun

-- It has begun, and is silent.
abbrev pub is_silent_by : Option Begun → Bool
is_silent_by None = false
is_silent_by (Some begun) = is_none begun.action

-- The value that it committed last of a variable: the variable's first one where it hasn't begun
abbrev pub committed_by : Plan → ℕ → ℕ → Option Begun → ℤ
committed_by plan agent variable None = (variable_at plan.unit variable).init
committed_by plan agent variable (Some begun) = copy_in (carried_with plan agent [] begun.copies) variable

-- Its seat behind a date where it starts this action there: it is silent where it starts none.
abbrev pub seat_of_action : Timing → ℕ → Option NextAction → Seat
seat_of_action timing date None = record nowhere { phase = phase.Silent; deadline = date }
seat_of_action timing date (Some action) = begun_at timing date action.number action.point

-- Its seat behind a date: one that hasn't begun waits, or begins there
abbrev pub seat_behind : Timing → ℕ → Option Begun → Seat
seat_behind timing date None = seat_then timing date nowhere
seat_behind timing date (Some begun) = seat_of_action timing date begun.action

-- ---- a state, by number

-- The agent of a number: one that hasn't begun where there is none
abbrev pub agent_in : State → ℕ → AgentOpening
agent_in state agent = get_or state.agents agent (record { begun = None; count = 0; slack = None })

-- The variable of a number: one that published nothing where there is none
abbrev pub variable_in : State → ℕ → VarOpening
variable_in state variable = get_or state.variables variable (record { values = []; reach = None })

-- The stream of a number: one that held nothing where there is none
abbrev pub stream_in : State → ℕ → StreamOpening
stream_in state stream = get_or state.streams stream (record { held = 0; messages = [] })

-- The value of a variable that was committed last, by its owner: an input keeps its first value.
abbrev pub committed_of : Plan → State → ℕ → Option ℕ → ℤ
committed_of plan state variable None = (variable_at plan.unit variable).init
committed_of plan state variable (Some owner) = committed_by plan owner variable (agent_in state owner).begun

-- ---- where a run begins

-- Behind a state
abbrev pub behind : Plan → State → Opening
behind plan state = record {
  dates = state.date + 1;
  starts = λ agent. found_in (slice_get state.agents agent) (λ a. starts_by plan state.date agent a.begun);
  silent = λ agent. is_silent_by (agent_in state agent).begun;
  committed = λ variable. committed_of plan state variable (variable_at plan.unit variable).owner;
  published = λ variable. (variable_in state variable).values;
  messages = λ stream. (stream_in state stream).messages;
  count = λ agent. (agent_in state agent).count;
  slack = λ agent. (agent_in state agent).slack;
  reach = λ variable. (variable_in state variable).reach;
  most = λ stream. (stream_in state stream).held;
}

-- Behind a state, or at date 0 where there is none
abbrev pub beginning_of : Plan → Option State → Opening
beginning_of plan None = whole_of plan
beginning_of plan (Some state) = behind plan state
