-- When an engine stands for the dated history and the schedule.
use Rattle.std.specs.Prelude.{◌≡◌, ℕ, zero, suc, ◌+◌, ◌-◌, ◌*◌, ◌==◌, ◌<◌, ◌≤◌, Bool, true, false, nat_lt, not, if◌then◌else◌, List, [], ◌∷◌, ◌++◌}
use Rattle.std.specs.Prelude.{filter, length, map, take, Option, Some, None, slice_get, ⊤}
use Rattle.std.specs.List.{count_by, flat_map, range_with_len}
use Rattle.psy_budget.specs.Charges.{Charged, ticked}
use Rattle.psy_code.specs.declared.code.Code.{Code}
use Rattle.psy_code.specs.declared.look.Sent.{Sent}
use Rattle.psy_code.specs.Execution.{RunState, Running, run_code}
use Rattle.psy_machine.specs.Stepping.{AgentMachine, IsNew, IsOf}
use Rattle.psy_ready.specs.Choice.{IsPick, pending_deadline}
use Rattle.psy_history.specs.Actions.{Action, System, Verdict, Done, stream_of}
use Rattle.psy_meaning.specs.CodeWays.{agent_code_at}
use Rattle.psy_history.specs.Executors.{machine_at}
use Rattle.psy_history.specs.History.{history}
use Rattle.psy_history.specs.Lines.{Event, publications, shows, stops_of}
use Rattle.psy_history.specs.Schedule.{Turn, is_pending, units}
use Rattle.psy_history.specs.Summary.{due_by, due_count, least_slack, most_held, reach}
use Rattle.psy_history.specs.Compiled.{AreInputs}
use Rattle.psy_history.specs.Regular.{begun_by}
use Rattle.psy_dates.specs.declared.opening.Opening.{Opening as State}
use Rattle.psy_dates.specs.Outboxes.{Outboxed}
use Rattle.psy_dates.specs.Plans.{IsPlan, IsSoundFor}
use Rattle.psy_dates.specs.Standing.{SharedStands, dates_done}
use Rattle.psy_kernel.specs.declared.engine.Engine.TheInside.{Inside}
use Rattle.psy_kernel.specs.declared.engine.Runner.{Runner}
use Rattle.psy_kernel.specs.declared.engine.Server.{Server}
use Rattle.psy_history.specs.Processors.{processor_at, processors}
use Rattle.psy_tree.specs.declared.unit.Unit.{Unit as Whole}
use Rattle.psy_history.specs.declared.told.Order.{Order}
use Rattle.psy_kernel.specs.Engines.{EngineState, history_of, opening_of, ties, turns_done}
use Rattle.psy_history.specs.Scripts.{IsScript, stalls_of}

-- How far the run is
abbrev pub state_of : Inside → EngineState
state_of k = record {
  plan = k.plan;
  inputs = k.shared.inputs.lists;
  script = k.script;
  opening = k.opening;
  dates = dates_done k.shared.date;
  done = map (λ (server : Server). server.cycles) k.servers.items;
  given = k.given;
}

-- ---- an agent

-- The charge of an action that had so many cycles
abbrev pub charge_after : System → Action → ℕ → Charged
charge_after s r had = ticked (record { stalls = s.stalls r.agent; started = r.number + 1; budget = r.budget; consumed = 0; paid = 0 }) had

-- The charge of an agent with these actions: whatever it is where the agent was silent from the beginning
abbrev pub ChargeStands : System → List (Option Turn) → ℕ → List Action → Charged → Type 0
ChargeStands s turns agent [] charge =
    s.opening.silent agent ≡ false → charge ≡ record { stalls = s.stalls agent; started = 0; budget = 0; consumed = 0; paid = 0 }
ChargeStands s turns agent (r ∷ before) charge = charge ≡ charge_after s r (units r.agent r.number turns)

-- The machine of an action that is pending is where its code is after the instructions that its cycles paid.
abbrev pub IsRunning : Code → Action → ℕ → AgentMachine → Type 0
IsRunning code r paid machine = (state : RunState) × (run_code code (agent_code_at code r.agent) (begun_by (agent_code_at code r.agent) r) paid
    ≡ Running state) × (state.machine ≡ machine.machine)

-- The machine behind an action that reached a point stands there, and carries what the agent does.
abbrev pub IsAtEnd : Code → Action → Verdict → AgentMachine → Type 0
IsAtEnd code r (Done point end) machine = machine.machine ≡ machine_at (agent_code_at code r.agent) point r.after
IsAtEnd code r verdict machine = ⊤

-- The machine of an agent's last action, pending or not
abbrev pub MachineIn : System → Code → List (Option Turn) → Action → Bool → AgentMachine → Type 0
MachineIn s code turns r true machine = IsRunning code r (charge_after s r (units r.agent r.number turns)).paid machine
MachineIn s code turns r false machine = IsAtEnd code r r.verdict machine

-- The machine of an agent with these actions: whatever it is where the agent was silent from the beginning
abbrev pub MachineStands : System → Code → List (Option Turn) → ℕ → List Action → AgentMachine → Type 0
MachineStands s code turns agent [] machine = s.opening.silent agent ≡ false → IsNew code agent machine
MachineStands s code turns agent (r ∷ before) machine = MachineIn s code turns r (is_pending turns r) machine

-- What an action that goes on sent and took so far: what the instructions did that its cycles paid.
pub record HasDone (s : System) (code : Code) (r : Action) (paid : ℕ) (sends : List Sent) (taken : List ℕ) : Type 0 where
  pub state : RunState
  pub running : run_code code (agent_code_at code r.agent) (begun_by (agent_code_at code r.agent) r) paid ≡ Running state
  pub sent : sends ≡ state.deeds.sends
  pub took : (stream n : ℕ) → slice_get taken stream ≡ Some n → (stream_of s stream).receiver ≡ r.agent
      → n ≡ length (take (count_by (λ t. t == stream) state.deeds.takes) (r.seen stream))

-- The outbox of an agent with these actions, and what it took of each stream, where its last action is pending
abbrev pub DeedsStand : System → Code → List (Option Turn) → List Action → List Sent → List ℕ → Type 0
DeedsStand s code turns [] sends taken = ⊤
DeedsStand s code turns (r ∷ before) sends taken = is_pending turns r ≡ true
    → HasDone s code r (charge_after s r (units r.agent r.number turns)).paid sends taken

-- The deadline of an agent's last action, where it is pending
abbrev pub deadline_of : List (Option Turn) → List Action → Option ℕ
deadline_of turns [] = None
deadline_of turns (r ∷ before) = if is_pending turns r then Some r.deadline else None

-- The actions that are due by a date and are finished or stopped
abbrev pub settled : List (Option Turn) → ℕ → List Action → List Action
settled turns until actions = filter (λ r. not (is_pending turns r)) (due_by until actions)

-- What an agent has, where its actions are these; its figure goes on from that of the beginning.
pub record AgentStands (s : System) (code : Code) (turns : List (Option Turn)) (until agent : ℕ) (actions : List Action) (runner : Runner)
    (waits : Option ℕ) : Type 0 where
  pub charged : ChargeStands s turns agent actions runner.charge
  pub is_agent : runner.machine.agent ≡ agent
  pub of_code : IsOf code runner.machine
  pub executes : MachineStands s code turns agent actions runner.machine
  pub ready : waits ≡ deadline_of turns actions
  pub counted : runner.figure.count ≡ due_count s agent (settled turns until actions)
  pub slacked : runner.figure.slack ≡ least_slack s turns agent (settled turns until actions)

-- ---- the order and the choice

-- So many of the orders have come into force by a cycle, and the others haven't.
pub record AreInForce (orders : List Order) (passed cycle : ℕ) : Type 0 where
  pub within : passed ≤ length orders
  pub come : (place : ℕ) (o : Order) → slice_get orders place ≡ Some o → place < passed → o.cycle ≤ cycle
  pub ahead : (place : ℕ) (o : Order) → slice_get orders place ≡ Some o → passed ≤ place → cycle < o.cycle

-- The agent that is chosen for a cycle is the one of the earliest deadline; none where nobody waits.
abbrev pub IsChosen : List (Option ℕ) → List ℕ → Option ℕ → Type 0
IsChosen ready order None = (agent : ℕ) → pending_deadline ready agent ≡ None
IsChosen ready order (Some agent) = IsPick ready order agent

-- ---- lines

-- The first so many messages that a stream shows at a date, where there is such a stream
abbrev pub shows_first : System → ℕ → ℕ → ℕ → List Event
shows_first s date stream shown = if nat_lt stream (length s.unit.streams) then take shown (shows s (history s (date + 1)) date stream) else []

-- What is told of a date before a place: first the stops by agent, then the publications by variable, then the messages by stream; and of
-- the stream at the place, the first so many messages
abbrev pub told_from : System → ℕ → ℕ → ℕ → List Event
told_from s date place shown =
    let h = history s (date + 1) in
    let stream = place - length s.unit.agents - length s.unit.variables in
    flat_map (λ agent. stops_of date (h agent)) (take place (range_with_len 0 (length s.unit.agents)))
    ++ (flat_map (publications s h date) (take (place - length s.unit.agents) (range_with_len 0 (length s.unit.variables)))
    ++ (flat_map (shows s h date) (take stream (range_with_len 0 (length s.unit.streams)))
    ++ shows_first s date stream shown))

-- How many lines were given of the last of so many dates: none of one that was done before
abbrev pub given_at : System → ℕ → ℕ → ℕ → ℕ
given_at s zero place shown = 0
given_at s (suc date) place shown = if nat_lt date s.opening.dates then 0 else length (told_from s date place shown)

-- ---- streams

-- The greatest number of messages that a stream held at the first so many dates, and before
abbrev pub most_held_in : System → ℕ → ℕ → ℕ
most_held_in s zero stream = s.opening.most stream
most_held_in s (suc date) stream = most_held s date stream

-- ---- a processor

-- The cycles done lie between the dates done and the next one.
abbrev pub InTick : ℕ → ℕ → ℕ → ℕ → Type 0
InTick quantum until zero cycles = cycles ≡ 0
InTick quantum until (suc date) cycles = (date ≤ until) × (date * quantum ≤ cycles) × (cycles ≤ (date + 1) * quantum) × (date ≡ until → cycles ≡ date * quantum)

-- A processor stands: its cycles done lie between the dates done and the next one, so many orders have come into force by its next cycle, only its own
-- agents wait for it, and the one that is chosen is the one of the earliest deadline.
pub record ServerStands (e : EngineState) (processor : ℕ) (server : Server) : Type 0 where
  pub in_tick : InTick e.plan.unit.quantum e.plan.until e.dates server.cycles
  pub waiting : length server.ready ≡ length e.plan.unit.agents
  pub own : (agent : ℕ) → (processor_at e.plan.unit agent ≡ processor → ⊥) → pending_deadline server.ready agent ≡ None
  pub orders : AreInForce e.script.orders server.passed server.cycles
  pub choice : server.stale ≡ false → IsChosen server.ready (ties e server.cycles) server.chosen

-- Who waits for a processor, where there is such a processor
abbrev pub ready_of : Option Server → List (Option ℕ)
ready_of None = []
ready_of (Some server) = server.ready

-- By agent, the deadline for which it waits for its processor
abbrev pub waits_on : Whole → List Server → ℕ → Option ℕ
waits_on unit servers agent = pending_deadline (ready_of (slice_get servers (processor_at unit agent))) agent

-- ---- the engine

-- A state has as many agents, variables and streams as the program; where there is none, nothing is asked.
pub record HasParts (unit : Whole) (state : State) : Type 0 where
  pub agents : length state.agents ≡ length unit.agents
  pub variables : length state.variables ≡ length unit.variables
  pub streams : length state.streams ≡ length unit.streams

abbrev pub HasPartsIn : Whole → Option State → Type 0
HasPartsIn unit None = ⊤
HasPartsIn unit (Some state) = HasParts unit state

-- The engine stands for the history of its plan's code, with its inputs and script, from where the run begins up to the date done last, and for what
-- the cycles done of each processor went to.
pub record EngineStands (k : Inside) : Type 0 where
  pub plan : IsPlan k.plan
  pub inputs : AreInputs k.plan.unit k.shared.inputs.lists
  pub script : IsScript k.plan.unit k.script
  -- it begins soundly, with what was done before, in a state of as many parts
  pub parts : HasPartsIn k.plan.unit k.opening
  pub sound : IsSoundFor k.plan (opening_of (state_of k)) k.shared.inputs.lists (stalls_of k.script)
  pub behind : (opening_of (state_of k)).dates ≤ dates_done k.shared.date
  pub served : length k.servers.items ≡ processors k.plan.unit
  pub servers : (processor : ℕ) (server : Server) → slice_get k.servers.items processor ≡ Some server → ServerStands (state_of k) processor server
  pub shared : SharedStands (history_of (state_of k)) k.plan.sizes (turns_done (state_of k)) (dates_done k.shared.date) k.shared
  pub run : length k.runners.items ≡ length k.plan.unit.agents
  pub reaching : length k.reaches.items ≡ length k.plan.unit.variables
  pub reached : (variable : ℕ) (n : Option ℕ) → slice_get k.reaches.items variable ≡ Some n
      → n ≡ reach (history_of (state_of k)) (turns_done (state_of k)) (history (history_of (state_of k)) (dates_done k.shared.date)) variable
  pub holding : length k.helds.items ≡ length k.plan.unit.streams
  pub held : (stream n : ℕ) → slice_get k.helds.items stream ≡ Some n → n ≡ most_held_in (history_of (state_of k)) (dates_done k.shared.date) stream
  pub doing : (agent : ℕ) (outbox : Outboxed) → slice_get k.shared.outboxes.items agent ≡ Some outbox
      → DeedsStand (history_of (state_of k)) k.plan.code (turns_done (state_of k) agent)
      (history (history_of (state_of k)) (dates_done k.shared.date) agent) outbox.sends k.shared.taken.items
  pub agents : (agent : ℕ) (runner : Runner) → slice_get k.runners.items agent ≡ Some runner
      → AgentStands (history_of (state_of k)) k.plan.code (turns_done (state_of k) agent) k.plan.until agent
      (history (history_of (state_of k)) (dates_done k.shared.date) agent) runner (waits_on k.plan.unit k.servers.items agent)
  pub all : k.declared.items ≡ range_with_len 0 (length k.plan.unit.agents)
  pub place : k.place ≤ length k.plan.unit.agents + length k.plan.unit.variables + length k.plan.unit.streams
  -- nothing is left to tell of a date that was done before
  pub before : (last : ℕ) → (opening_of (state_of k)).dates ≡ suc last → dates_done k.shared.date ≡ suc last
      → k.place ≡ length k.plan.unit.agents + length k.plan.unit.variables + length k.plan.unit.streams
  pub unshown : k.place < length k.plan.unit.agents + length k.plan.unit.variables → k.shown ≡ 0
  pub given : k.given ≡ given_at (history_of (state_of k)) (dates_done k.shared.date) k.place k.shown
