-- When what the agents share stands for a dated history.
use Rattle.std.specs.Prelude.{◌≡◌, ◌≢◌, ℕ, suc, ◌+◌, ◌-◌, ◌<◌, ◌≤◌, Bool, true, false, List, [], ◌∷◌, length, get_or, Option, Some, None, slice_get, ⊤, ℤ}
use Rattle.psy_arith.specs.declared.operators.Trap.{Trap}
use Rattle.psy_base.specs.declared.sizes.Sizes.{Sizes}
use Rattle.psy_code.specs.declared.look.Sent.{Sent}
use Rattle.psy_queue.specs.Order.{Queued}
use Rattle.psy_history.specs.Actions.{Action, History, System, Verdict, Done, Trapped, is_done, is_silent, stream_of, timing, variable_of}
use Rattle.psy_history.specs.Executors.{copy_in}
use Rattle.psy_history.specs.History.{history}
use Rattle.psy_meaning.specs.Timing.{first_date}
use Rattle.psy_history.specs.Schedule.{Turn, is_pending}
use Rattle.psy_history.specs.Visible.{committed_in, taken}
use Rattle.psy_history.specs.Queues.{queue_of}
use Rattle.psy_history.specs.Rings.{ring_of}
use Rattle.psy_dates.specs.Calendars.{CalendarStands}
use Rattle.psy_dates.specs.declared.movers.Movers.{Movers}
use Rattle.psy_dates.specs.declared.seat.Phase.{Phase}
use Rattle.psy_dates.specs.declared.seat.Phase.TheVariants as phase
use Rattle.psy_dates.specs.declared.seat.Seat.{Seat}
use Rattle.psy_dates.specs.declared.shared.Shared.{Shared}
use Rattle.psy_dates.specs.Movers.{AreBefore, NamesAll, NoneStopped, falls_in}
use Rattle.psy_dates.specs.Outboxes.{Outboxed}

-- How many dates are done, by the last one
abbrev pub dates_done : Option ℕ → ℕ
dates_done None = 0
dates_done (Some date) = date + 1

-- The trap of an action that ended so
abbrev pub trap_of : Verdict → Option Trap
trap_of (Trapped kind) = Some kind
trap_of verdict = None

-- What an agent is at in its last action: silent where it is at the date done last, else acting while that action is pending, then
-- ended or stopped.
abbrev pub phase_by : Bool → Bool → Bool → Phase
phase_by true pending done = phase.Silent
phase_by false true done = phase.Acting
phase_by false false true = phase.Ended
phase_by false false false = phase.Stopped

-- The same, by the cycles done
abbrev pub phase_of : ℕ → List (Option Turn) → Action → Phase
phase_of date turns r = phase_by (is_silent date (r ∷ [])) (is_pending turns r) (is_done r.verdict)

-- A seat tells where an action that has ended went, and by what one that was stopped trapped.
abbrev pub TellsEnd : Seat → Verdict → Phase → Type 0
TellsEnd seat (Done point end) phase.Ended = (seat.end ≡ end) × (seat.reached ≡ point)
TellsEnd seat verdict phase.Stopped = seat.trap ≡ trap_of verdict
TellsEnd seat verdict phase.Silent = seat.trap ≡ trap_of verdict
TellsEnd seat verdict phase = ⊤

-- The seat of an agent whose last action is this
pub record SeatOf (date : ℕ) (turns : List (Option Turn)) (r : Action) (seat : Seat) : Type 0 where
  pub phase : seat.phase ≡ phase_of date turns r
  pub number : seat.number ≡ r.number
  pub point : seat.point ≡ r.point
  pub start : seat.start ≡ r.start
  pub deadline : seat.deadline ≡ r.deadline
  pub ends : TellsEnd seat r.verdict seat.phase

-- The seat of an agent with these actions: it waits where it has none.
abbrev pub SeatStands : ℕ → List (Option Turn) → List Action → Seat → Type 0
SeatStands date turns [] seat = seat.phase ≡ phase.Waiting
SeatStands date turns (r ∷ before) seat = SeatOf date turns r seat

-- The seat of a silent agent that has no actions: it fell silent at the last of so many dates that were done before, by no trap that is known.
pub record IsQuiet (dates : ℕ) (seat : Seat) : Type 0 where
  pub phase : seat.phase ≡ phase.Silent
  pub deadline : suc seat.deadline ≡ dates
  pub trap : seat.trap ≡ None

-- The seat of an agent with these actions in a history that begins behind so many dates, by whether the agent was silent then
abbrev pub IsSeated : Bool → ℕ → ℕ → List (Option Turn) → List Action → Seat → Type 0
IsSeated false before date turns actions seat = SeatStands date turns actions seat
IsSeated true before date turns [] seat = IsQuiet before seat
IsSeated true before date turns (r ∷ earlier) seat = SeatOf date turns r seat

-- The value committed by a date, by the variable's owner: an input keeps its first value.
abbrev pub committed_by : System → History → ℕ → ℕ → Option ℕ → ℤ
committed_by s h variable date (Some owner) = committed_in s variable date (h owner)
committed_by s h variable date None = s.opening.committed variable

-- The value of a variable that is committed by a date
abbrev pub committed_at : System → History → ℕ → ℕ → ℤ
committed_at s h variable date = committed_by s h variable date (variable_of s variable).owner

-- The working copy of a variable whose owner has ended its action is kept.
abbrev pub KeepsCopy : ℕ → List (Option Turn) → ℕ → List Action → ℤ → Type 0
KeepsCopy date turns variable [] value = ⊤
KeepsCopy date turns variable (r ∷ before) value = phase_of date turns r ≡ phase.Ended → value ≡ copy_in r.after variable

-- The ring of a variable has its size, and holds the values published last in the first dates.
pub record RingStands (s : System) (sizes : Sizes) (dates variable : ℕ) (ring : List ℤ) : Type 0 where
  pub size : length ring ≡ get_or sizes.rings variable 0
  pub values : ring ≡ ring_of s dates variable (length ring)

-- The queue of a stream has the places of its size, and as many more as the stream held messages when the history began; and it holds what
-- the stream holds when the first so many dates are done.
pub record QueueStands (s : System) (sizes : Sizes) (dates stream : ℕ) (queue : Queued) : Type 0 where
  pub room : queue.size ≡ get_or sizes.queues stream 0 + length (s.opening.messages stream)
  pub messages : queue.messages ≡ queue_of s dates stream

-- What an agent that has ended its action sent is kept; before its first action there is nothing.
abbrev pub KeepsSends : ℕ → List (Option Turn) → List Action → List Sent → Type 0
KeepsSends date turns [] sends = sends ≡ []
KeepsSends date turns (r ∷ before) sends = phase_of date turns r ≡ phase.Ended → sends ≡ r.deeds.sends

-- The outbox of an agent has its size, and keeps what was sent.
pub record OutboxStands (sizes : Sizes) (date : ℕ) (turns : List (Option Turn)) (agent : ℕ) (actions : List Action) (outbox : Outboxed) : Type 0 where
  pub size : outbox.size ≡ get_or sizes.outboxes agent 0
  pub sends : KeepsSends date turns actions outbox.sends

-- How many messages of a stream its receiver took in an action that it has ended is kept; before its first action there are none.
abbrev pub KeepsTakes : ℕ → List (Option Turn) → ℕ → List Action → ℕ → Type 0
KeepsTakes date turns stream [] n = n ≡ 0
KeepsTakes date turns stream (r ∷ before) n = phase_of date turns r ≡ phase.Ended → n ≡ length (taken r stream)

-- It is known before which date no seat changes, whether an agent was stopped, and who fell silent at the last of so many dates; and there is
-- room for the name of each agent.
pub record MoversStand (s : System) (dates : ℕ) (seats : List Seat) (movers : Movers) : Type 0 where
  pub room : length s.unit.agents ≤ movers.moved.size
  pub before : AreBefore (λ agent. first_date (timing s agent)) movers.least seats
  pub stopped : movers.stopped ≡ false → NoneStopped seats
  pub fallen : NamesAll (falls_in dates seats) (length seats) 0 movers.moved.agents

-- The shared state, with buffers of these sizes, stands for the history of the first so many dates, where by agent the cycles done of its
-- processor went to these turns.
pub record SharedStands (s : System) (sizes : Sizes) (turns : ℕ → List (Option Turn)) (dates : ℕ) (shared : Shared) : Type 0 where
  pub date : dates_done shared.date ≡ dates
  pub seated : length shared.seats.items ≡ length s.unit.agents
  pub seats : (agent : ℕ) (seat : Seat) → slice_get shared.seats.items agent ≡ Some seat
      → IsSeated (s.opening.silent agent) s.opening.dates (dates - 1) (turns agent) (history s dates agent) seat
  pub valued : length shared.committed.items ≡ length s.unit.variables
  pub committed : (variable : ℕ) (value : ℤ) → slice_get shared.committed.items variable ≡ Some value
      → value ≡ committed_at s (history s dates) variable (dates - 1)
  pub kept : length shared.ended.items ≡ length s.unit.variables
  pub ended : (variable owner : ℕ) (value : ℤ) → slice_get shared.ended.items variable ≡ Some value → (variable_of s variable).owner ≡ Some owner
      → KeepsCopy (dates - 1) (turns owner) variable (history s dates owner) value
  pub ringed : length shared.rings.items ≡ length s.unit.variables
  pub rings : (variable : ℕ) (ring : List ℤ) → slice_get shared.rings.items variable ≡ Some ring → RingStands s sizes dates variable ring
  pub queued : length shared.queues.items ≡ length s.unit.streams
  pub queues : (stream : ℕ) (queue : Queued) → slice_get shared.queues.items stream ≡ Some queue → QueueStands s sizes dates stream queue
  pub boxed : length shared.outboxes.items ≡ length s.unit.agents
  pub outboxes : (agent : ℕ) (outbox : Outboxed) → slice_get shared.outboxes.items agent ≡ Some outbox
      → OutboxStands sizes (dates - 1) (turns agent) agent (history s dates agent) outbox
  pub taking : length shared.taken.items ≡ length s.unit.streams
  pub taken : (stream n : ℕ) → slice_get shared.taken.items stream ≡ Some n
      → KeepsTakes (dates - 1) (turns (stream_of s stream).receiver) stream (history s dates (stream_of s stream).receiver) n
  pub calendar : CalendarStands s.unit.clocks dates shared.calendar
  pub movers : MoversStand s dates shared.seats.items shared.movers

-- No seat whose deadline is this date or was before is acting.
abbrev pub NoneActs : ℕ → List Seat → Type 0
NoneActs date seats = (agent : ℕ) (seat : Seat) → slice_get seats agent ≡ Some seat → seat.deadline ≤ date → seat.phase ≢ phase.Acting

-- ---- the actions that a date starts, and those that go on

-- The agent's action is pending, and started at this date.
abbrev pub Begins : ℕ → List Seat → ℕ → Type 0
Begins date seats agent = (seat : Seat) × (slice_get seats agent ≡ Some seat) × (seat.phase ≡ phase.Acting) × (seat.start ≡ date)

-- The agent's action is pending, and started before this date.
abbrev pub GoesOn : ℕ → List Seat → ℕ → Type 0
GoesOn date seats agent = (seat : Seat) × (slice_get seats agent ≡ Some seat) × (seat.phase ≡ phase.Acting) × (seat.start < date)
