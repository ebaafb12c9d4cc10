-- What a date does to the queues of streams: what was taken and what has expired goes, and messages enter.
use Rattle.std.specs.Prelude.{◌≡◌, ℕ, ◌+◌, ◌≤◌, ◌==◌, Bool, true, false, nat_le, nat_lt, if◌then◌else◌, List, [], drop, filter, length, get_or, Some}
use Rattle.std.specs.Prelude.{None, slice_get}
use Rattle.std.specs.List.{flat_map, range_with_len}
use Rattle.psy_base.specs.declared.message.Message.{Message}
use Rattle.psy_code.specs.declared.look.Sent.{Sent}
use Rattle.psy_queue.specs.Order.{Queued}
use Rattle.psy_history.specs.Actions.{System}
use Rattle.psy_history.specs.Visible.{messages_from}
use Rattle.psy_history.specs.Queues.{entered}
use Rattle.psy_dates.specs.declared.seat.Phase.{Phase}
use Rattle.psy_dates.specs.declared.seat.Phase.TheVariants as phase
use Rattle.psy_dates.specs.declared.seat.Seat.{Seat}
use Rattle.psy_dates.specs.Moves.{ends_at}
use Rattle.psy_dates.specs.Outboxes.{Outboxed}

-- ---- what goes

-- A receiver's streams are rid of what has expired at a date, by what it is at: where its next action starts there, whose first date is
-- given, or where it is silent.
abbrev pub sweeps_by : ℕ → ℕ → Seat → Phase → Bool
sweeps_by date first seat phase.Waiting = first == date
sweeps_by date first seat phase.Acting = false
sweeps_by date first seat phase.Ended = seat.end == date
sweeps_by date first seat phase.Stopped = nat_le seat.deadline date
sweeps_by date first seat phase.Silent = true

-- Of the messages that a receiver took those go whose action it has ended.
abbrev pub gone_by : ℕ → Phase → ℕ
gone_by taken phase.Ended = taken
gone_by taken phase = 0

-- A queue behind that, by the receiver's seat
abbrev pub settled_then : ℕ → ℕ → Seat → ℕ → Queued → Queued
settled_then date first seat taken queue =
    if sweeps_by date first seat seat.phase
    then record queue { messages = filter (λ (m : Message). nat_lt date m.expiry) (drop (gone_by taken seat.phase) queue.messages) }
    else queue

-- The seat of an agent that there is none of
abbrev pub nowhere : Seat
nowhere = record { phase = phase.Waiting; number = 0; point = 0; start = 0; deadline = 0; end = 0; reached = 0; trap = None }

-- ---- what enters

-- What an agent sent, by its number; nothing where there is none
abbrev pub sends_of : List Outboxed → ℕ → List Sent
sends_of outboxes agent = (get_or outboxes agent (record { size = 0; sends = [] })).sends

-- The messages to a stream of an agent that ends its action at a date
abbrev pub sent_by : System → ℕ → List Seat → List Outboxed → ℕ → ℕ → List Message
sent_by s date seats outboxes stream agent = if ends_at date (slice_get seats agent) then messages_from s stream agent date 0 (sends_of outboxes agent) else []

-- Those of so many agents from one on
abbrev pub sent_from : System → ℕ → List Seat → List Outboxed → ℕ → ℕ → ℕ → List Message
sent_from s date seats outboxes agent agents stream = flat_map (sent_by s date seats outboxes stream) (range_with_len agent agents)

-- A queue with these messages put in their places
abbrev pub with_entered : List Message → Queued → Queued
with_entered more queue = record queue { messages = entered more queue.messages }

-- The queue of each stream has room for these messages.
abbrev pub HaveRoom : (ℕ → List Message) → List Queued → Type 0
HaveRoom more queues = (stream : ℕ) (queue : Queued) → slice_get queues stream ≡ Some queue → length (more stream) + length queue.messages ≤ queue.size

-- In the queue of each stream these messages have entered.
abbrev pub HaveEntered : (ℕ → List Message) → List Queued → List Queued → Type 0
HaveEntered more before after = (stream : ℕ) (queue : Queued) → slice_get before stream ≡ Some queue
    → slice_get after stream ≡ Some (with_entered (more stream) queue)
