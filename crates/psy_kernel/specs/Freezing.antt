-- A run that is done, as another one may go on from it.
use Rattle.std.specs.Prelude.{◌≡◌, ℕ, suc, ◌-◌, ◌*◌, ◌==◌, ◌<◌, Bool, true, false, nat_lt, not, if◌then◌else◌, List, [], get_or, length, map, Option, Some, None}
use Rattle.std.specs.Prelude.{slice_get, pos, ℤ}
use Rattle.std.specs.List.{All, range_with_len}
use Rattle.psy_code.specs.declared.code.AgentCode.{AgentCode}
use Rattle.psy_code.specs.declared.code.Code.{Code}
use Rattle.psy_code.specs.declared.code.CopyInit.{CopyInit}
use Rattle.psy_dates.specs.declared.opening.AgentOpening.{AgentOpening}
use Rattle.psy_dates.specs.declared.opening.Begun.{Begun}
use Rattle.psy_dates.specs.declared.opening.NextAction.{NextAction}
use Rattle.psy_dates.specs.declared.opening.Opening.{Opening as State}
use Rattle.psy_dates.specs.declared.opening.StreamOpening.{StreamOpening}
use Rattle.psy_dates.specs.declared.opening.VarOpening.{VarOpening}
use Rattle.psy_dates.specs.declared.plan.Plan.{Plan}
use Rattle.psy_dates.specs.declared.seat.Phase.{Phase}
use Rattle.psy_dates.specs.declared.seat.Phase.TheVariants as phase
use Rattle.psy_dates.specs.declared.seat.Seat.{Seat}
use Rattle.psy_history.specs.Actions.{Next, Opening, System}
use Rattle.psy_history.specs.Executors.{by_code, copy_in}
use Rattle.psy_history.specs.History.{history}
use Rattle.psy_history.specs.Resuming.{is_busy, opening_at}
use Rattle.psy_history.specs.Scheduled.{turns_by}
use Rattle.psy_meaning.specs.CodeWays.{agent_code_at}
use Rattle.psy_queue.specs.Order.{Queued}
use Rattle.psy_tree.specs.Parts.{variable_at}
use Rattle.psy_kernel.specs.declared.engine.Runner.{Runner}
use Rattle.psy_kernel.specs.Engines.{EngineState, history_of, ties}
use Rattle.psy_kernel.specs.Progress.{Progress, order, system}
use Rattle.psy_kernel.specs.Starting.{is_acting, seat_at}

-- An agent whose action is under way at a date, and none of a lesser number has one.
pub record IsFirstBusy (s : System) (date agent : ℕ) : Type 0 where
  pub known : agent < length s.unit.agents
  pub busy : is_busy date (history s (suc date) agent) ≡ true
  pub first : (lesser : ℕ) → lesser < agent → is_busy date (history s (suc date) lesser) ≡ false

-- The code's working copies begin with the first values of the variables.
abbrev pub BeginWithFirst : Plan → Type 0
BeginWithFirst plan = (agent variable : ℕ) → (variable_at plan.unit variable).owner ≡ Some agent
    → copy_in ((by_code plan.code).first agent) variable ≡ (variable_at plan.unit variable).init

-- What a run leaves that was done up to the last date of its plan
abbrev pub left_by : Progress → Opening
left_by p = opening_at (system p) p.plan.sizes.rings (turns_by (system p) (order p) (p.plan.until * p.plan.unit.quantum)) p.plan.until

-- The same of an engine
abbrev pub left_on : EngineState → Opening
left_on e = opening_at (history_of e) e.plan.sizes.rings (turns_by (history_of e) (ties e) (e.plan.until * e.plan.unit.quantum)) e.plan.until

-- ---- seats

-- An action is under way at a date, by what its agent is at, and by whether it started there.
abbrev pub is_under_way_by : Phase → Bool → Bool
is_under_way_by phase.Waiting now = false
is_under_way_by phase.Silent now = false
is_under_way_by phase.Acting now = not now
is_under_way_by _ now = true

-- The action of a seat is under way at a date.
abbrev pub is_under_way : ℕ → Seat → Bool
is_under_way date seat = is_under_way_by seat.phase (seat.start == date)

-- The first of the seats whose action is under way at a date
pub record IsFirstUnderWay (date : ℕ) (seats : List Seat) (agent : ℕ) : Type 0 where
  pub known : agent < length seats
  pub is : is_under_way date (seat_at seats agent) ≡ true
  pub first : (lesser : ℕ) → lesser < agent → is_under_way date (seat_at seats lesser) ≡ false

-- Of so many seats no action is under way at a date.
abbrev pub NoneUnderWay : ℕ → List Seat → ℕ → Type 0
NoneUnderWay date seats n = (agent : ℕ) → agent < n → is_under_way date (seat_at seats agent) ≡ false

-- ---- what is left of agents, none of whose actions is under way

-- By working copy, the value of its variable that was committed last
abbrev pub copies_left : List CopyInit → List ℤ → List ℤ
copies_left own committed = map (λ (c : CopyInit). get_or committed c.variable (pos 0)) own

-- The action that an agent starts, by its seat, with these cells
abbrev pub action_left : Seat → List ℤ → Option NextAction
action_left seat cells = if is_acting seat.phase then Some (record { number = seat.number; point = seat.point; cells = cells }) else None

-- What an agent has once its first date has come, by what it is at
abbrev pub begun_by : Phase → Begun → Option Begun
begun_by phase.Waiting begun = None
begun_by _ begun = Some begun

abbrev pub begun_left : List CopyInit → List ℤ → Seat → List ℤ → Option Begun
begun_left own committed seat cells = begun_by seat.phase (record { copies = copies_left own committed; action = action_left seat cells })

-- What is left of an agent; of one that there isn't, nothing
abbrev pub agent_by : AgentCode → List ℤ → Seat → Option Runner → AgentOpening
agent_by its committed seat None = record { begun = None; count = 0; slack = None }
agent_by its committed seat (Some runner) =
    record { begun = begun_left its.copies committed seat runner.machine.machine.home.cells; count = runner.figure.count; slack = runner.figure.slack }

abbrev pub agent_left : Code → List ℤ → List Seat → List Runner → ℕ → AgentOpening
agent_left code committed seats runners agent = agent_by (agent_code_at code agent) committed (seat_at seats agent) (slice_get runners agent)

-- The code's working copies are of variables that there are.
abbrev pub MayLeave : AgentCode → List ℤ → Type 0
MayLeave its committed = All (λ (c : CopyInit). c.variable < length committed) its.copies

-- ---- what is left of variables and streams

abbrev pub variable_left : List (List ℤ) → List (Option ℕ) → ℕ → VarOpening
variable_left rings reaches variable = record { values = get_or rings variable []; reach = get_or reaches variable None }

abbrev pub stream_left : List Queued → List ℕ → ℕ → StreamOpening
stream_left queues helds stream = record { held = get_or helds stream 0; messages = (get_or queues stream (record { size = 0; messages = [] })).messages }

-- ---- the state of an opening

-- The action that an agent starts, with the cells that it carries
abbrev pub action_of : Next → NextAction
action_of n = record { number = n.number; point = n.point; cells = n.carried.cells }

-- By working copy, the value of its variable that was committed last
abbrev pub copies_of : Opening → List CopyInit → List ℤ
copies_of opening own = map (λ (c : CopyInit). opening.committed c.variable) own

-- What an agent has that starts this action: nothing where it starts behind the dates that were done, since it hasn't begun then
abbrev pub begun_with : ℕ → List ℤ → Option Next → Option Begun
begun_with dates copies None = None
begun_with dates copies (Some n) = if nat_lt n.start dates then Some (record { copies = copies; action = Some (action_of n) }) else None

-- What an agent has once its first date has come, by whether it is silent and by what it starts
abbrev pub begun_of : ℕ → List ℤ → Bool → Option Next → Option Begun
begun_of dates copies true next = Some (record { copies = copies; action = None })
begun_of dates copies false next = begun_with dates copies next

-- What an agent has
abbrev pub agent_of : Plan → Opening → ℕ → AgentOpening
agent_of plan opening agent = record {
  begun = begun_of opening.dates (copies_of opening (agent_code_at plan.code agent).copies) (opening.silent agent) (opening.starts agent);
  count = opening.count agent;
  slack = opening.slack agent;
}

-- What a variable has
abbrev pub variable_by : Opening → ℕ → VarOpening
variable_by opening variable = record { values = opening.published variable; reach = opening.reach variable }

-- What a stream has
abbrev pub stream_by : Opening → ℕ → StreamOpening
stream_by opening stream = record { held = opening.most stream; messages = opening.messages stream }

-- The one state of an opening of a plan
abbrev pub state_by : Plan → Opening → State
state_by plan opening = record {
  date = opening.dates - 1;
  agents = map (agent_of plan opening) (range_with_len 0 (length plan.unit.agents));
  variables = map (variable_by opening) (range_with_len 0 (length plan.unit.variables));
  streams = map (stream_by opening) (range_with_len 0 (length plan.unit.streams));
}
