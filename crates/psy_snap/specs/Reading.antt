-- Reading field by field from left to right: what is read and the bytes behind it, or a fault's number and how many bytes were left from it on.
use Rattle.std.specs.Prelude.{◌≡◌, ℕ, ℤ, suc, ◌+◌, ◌-◌, ◌≤◌, ◌==◌, Bool, true, false, not, ◌&&◌, ◌||◌, nat_eq, nat_le, nat_lt, if◌then◌else◌, List}
use Rattle.std.specs.Prelude.{[], ◌∷◌, ◌++◌, length, drop, map, replicate, get_or, slice_get, is_some, Option, Some, None, Result, Ok, Err, ⊤}
use Rattle.std.specs.Int.{w32, w64, cast_signed}
use Rattle.std.specs.List.{range_with_len, starts_with}
use Rattle.std.specs.Ordering.{int_eq}
use Rattle.psy_base.specs.declared.limits.TheConstants.{QUEUE, UNTIL}
use Rattle.psy_base.specs.declared.message.Message.{Message}
use Rattle.psy_dates.specs.declared.opening.AgentOpening.{AgentOpening}
use Rattle.psy_dates.specs.declared.opening.Begun.{Begun}
use Rattle.psy_dates.specs.declared.opening.NextAction.{NextAction}
use Rattle.psy_dates.specs.declared.opening.Opening.{Opening}
use Rattle.psy_dates.specs.declared.opening.StreamOpening.{StreamOpening}
use Rattle.psy_dates.specs.declared.opening.VarOpening.{VarOpening}
use Rattle.psy_snap.specs.declared.fault.ReadError.{ReadError}
use Rattle.psy_snap.specs.declared.fault.ReadError.TheVariants as errors
use Rattle.psy_snap.specs.declared.fault.StateFault.{StateFault}
use Rattle.psy_snap.specs.declared.fault.StateFault.TheVariants as fault
use Rattle.psy_snap.specs.declared.limits.TheConstants.{FAR, FIGURE}
use Rattle.psy_snap.specs.Bytes.{mark}
use Rattle.psy_snap.specs.Cuts.{Ask, any_number, cell_of, copies_asks, flag_after, long_below, message_asks, number_in, one_of}
use Rattle.psy_snap.specs.Cuts.{up_to, width_of}
use Rattle.psy_snap.specs.Faults.{both_so, rises, starts_wrong}
use Rattle.psy_snap.specs.Forms.{AgentForm, Form, StreamForm, VarForm, published_by}

-- What follows what was read
abbrev pub go_on : {A B : Type 0} → Result (A × List ℕ) ReadError → (A → List ℕ → Result (B × List ℕ) ReadError) → Result (B × List ℕ) ReadError
go_on (Ok x) next = next x.0 x.1
go_on (Err error) next = Err error

-- A field is missing or cut, or out of its range: so many bytes were left at it.
abbrev pub bad : {A : Type 0} → ℕ → Result A ReadError
bad left = Err (errors.Bad 1 left)

-- A number
abbrev pub word_at : Bool → List ℕ → Result (ℕ × List ℕ) ReadError
word_at long bytes = if nat_lt (length bytes) (width_of long) then bad (length bytes) else Ok (number_in long bytes, drop (width_of long) bytes)

-- What was read, where it passes the test
abbrev pub where_good : {A : Type 0} → Bool → A → ℕ → Result A ReadError
where_good b x left = if b then Ok x else bad left

-- A field
unfoldable pub field_at : Ask → List ℕ → Result (ℕ × List ℕ) ReadError
field_at ask bytes = go_on (word_at ask.long bytes) (λ n rest. where_good (ask.range n) (n, rest) (length bytes))

-- SLACK, where its flag is 1
abbrev pub slack_at : ℕ → List ℕ → Result (Option ℕ × List ℕ) ReadError
slack_at flag bytes = if flag == 1 then go_on (field_at (long_below FIGURE) bytes) (λ n rest. Ok (Some n, rest)) else Ok (None, bytes)

-- COUNT and SLACK
unfoldable pub figures_at : List ℕ → Result ((ℕ × Option ℕ) × List ℕ) ReadError
figures_at bytes = go_on (field_at (long_below FIGURE) bytes) (λ count rest.
    go_on (field_at (flag_after count) rest) (λ flag more. go_on (slack_at flag more) (λ slack last. Ok ((count, slack), last))))

-- REACH, where its flag is 1
abbrev pub reach_at : ℕ → ℕ → List ℕ → Result (Option ℕ × List ℕ) ReadError
reach_at size flag bytes = if flag == 1 then go_on (field_at (one_of size) bytes) (λ n rest. Ok (Some n, rest)) else Ok (None, bytes)

-- The mark, and the date
unfoldable pub head_at : ℕ → List ℕ → Result (ℕ × List ℕ) ReadError
head_at until bytes = if starts_with nat_eq bytes mark then field_at (up_to until) (drop 5 bytes) else bad (length bytes)

-- ---- one after the other

-- A step for each of a list, from what the ones before it came to
unfoldable pub each_at : {F S : Type 0} → (F → S → List ℕ → Result (S × List ℕ) ReadError) → List F → S → List ℕ → Result (S × List ℕ) ReadError
each_at step [] s bytes = Ok (s, bytes)
each_at step (form ∷ forms) s bytes = go_on (step form s bytes) (λ t rest. each_at step forms t rest)

-- A field, behind what others say
abbrev pub said_at : {X : Type 0} → (ℕ → X) → Ask → List X → List ℕ → Result (List X × List ℕ) ReadError
said_at say ask said bytes = go_on (field_at ask bytes) (λ n rest. Ok (said ++ say n ∷ [], rest))

-- Values of 32 bits, and cells of 64
abbrev pub values_at : List Ask → List ℤ → List ℕ → Result (List ℤ × List ℕ) ReadError
values_at asks values bytes = each_at (said_at (cast_signed w32)) asks values bytes

abbrev pub cells_at : List Ask → List ℤ → List ℕ → Result (List ℤ × List ℕ) ReadError
cells_at asks cells bytes = each_at (said_at (cast_signed w64)) asks cells bytes

-- The number at a place, where the bytes go so far
abbrev pub found_at : Bool → ℕ → List ℕ → Option ℕ
found_at long place bytes = if nat_lt (length bytes) (place + width_of long) then None else Some (number_in long (drop place bytes))

-- A number, unless it begins a part that is at fault
abbrev pub unless_wrong : Bool → ℕ → ℕ → List ℕ → ℕ → Result (ℕ × List ℕ) ReadError
unless_wrong wrong number n rest left = if wrong then Err (errors.Bad number left) else Ok (n, rest)

-- ---- agents

-- An agent of this kind can't be so at the date.
abbrev pub is_misplaced : AgentForm → ℕ → ℕ → Option ℕ → Bool
is_misplaced form date kind point =
    if kind == 0 then nat_le form.first date
    else if kind == 1 then nat_lt date form.first || starts_wrong form date point
    else false

-- The kind: an action's point stands behind it and the action's number.
unfoldable pub kind_at : AgentForm → ℕ → List ℕ → Result (ℕ × List ℕ) ReadError
kind_at form date bytes = go_on (field_at (up_to 2) bytes)
    (λ kind rest. unless_wrong (is_misplaced form date kind (found_at false 12 bytes)) 2 kind rest (length bytes))

-- The action that it starts
unfoldable pub action_at : AgentForm → List ℕ → Result (NextAction × List ℕ) ReadError
action_at form bytes = go_on (field_at (long_below (suc UNTIL)) bytes) (λ number rest. go_on (field_at (one_of form.points) rest) (λ point more.
    go_on (cells_at (map cell_of form.cells) [] more) (λ cells last. Ok (record { number = number; point = point; cells = cells }, last))))

-- The same, where the kind has one
abbrev pub started_at : AgentForm → ℕ → List ℕ → Result (Option NextAction × List ℕ) ReadError
started_at form kind bytes = if kind == 1 then go_on (action_at form bytes) (λ action rest. Ok (Some action, rest)) else Ok (None, bytes)

-- What it has once it has begun
unfoldable pub begun_at : AgentForm → ℕ → List ℕ → Result (Option Begun × List ℕ) ReadError
begun_at form kind bytes =
    if kind == 0 then Ok (None, bytes)
    else go_on (started_at form kind bytes) (λ action rest. go_on (values_at (copies_asks form) [] rest)
    (λ copies more. Ok (Some (record { copies = copies; action = action }), more)))

-- An agent, behind others
unfoldable pub agent_at : ℕ → AgentForm → List AgentOpening → List ℕ → Result (List AgentOpening × List ℕ) ReadError
agent_at date form agents bytes = go_on (kind_at form date bytes) (λ kind rest. go_on (begun_at form kind rest) (λ begun more.
    go_on (figures_at more) (λ figures last. Ok (agents ++ (record { begun = begun; count = figures.0; slack = figures.1 }) ∷ [], last))))

-- ---- variables

-- A value of a ring: the first value, where no more were published than stand before it
abbrev pub kept_ask : ℕ → ℤ → ℕ → Ask
kept_ask published init back = record { long = false; range = λ n. nat_lt back published || int_eq (cast_signed w32 n) init }

-- A ring's values
abbrev pub ring_at : ℕ → ℤ → ℕ → List ℕ → Result (List ℤ × List ℕ) ReadError
ring_at published init size bytes = values_at (map (kept_ask published init) (range_with_len 0 size)) [] bytes

-- A variable, behind others
unfoldable pub variable_at : ℕ → VarForm → List VarOpening → List ℕ → Result (List VarOpening × List ℕ) ReadError
variable_at date form variables bytes = go_on (ring_at (published_by form date) form.init form.size bytes) (λ values rest.
    go_on (field_at (up_to 1) rest) (λ flag more. go_on (reach_at form.size flag more) (λ reach last.
    Ok (variables ++ (record { values = values; reach = reach }) ∷ [], last))))

-- ---- streams

-- The numbers by which messages are ordered
abbrev pub keys_of : Message → List (Option ℕ)
keys_of m = Some m.visible ∷ Some m.entry ∷ Some m.sender ∷ Some m.number ∷ []

abbrev pub keys_at : List ℕ → List (Option ℕ)
keys_at bytes = found_at true 0 bytes ∷ found_at true 8 bytes ∷ found_at false 16 bytes ∷ found_at false 20 bytes ∷ []

-- The message that stands last
unfoldable pub last_of : List Message → Option Message
last_of messages = slice_get messages (length messages - 1)

-- A number isn't there, or is above one, or is the same and what follows is in order.
abbrev pub rises_by : ℕ → Option ℕ → Bool → Bool
rises_by one None behind = true
rises_by one (Some n) behind = nat_lt one n || one == n && behind

-- The message at the front of the bytes is behind the one before it.
abbrev pub comes_after : Option Message → List ℕ → Bool
comes_after None bytes = true
comes_after (Some before) bytes = rises (keys_of before) (keys_at bytes)

-- Both numbers are there, and the first is below the other, or at most the other.
abbrev pub is_below : Option ℕ → Option ℕ → Bool
is_below first second = both_so (λ a b. nat_lt a b) first second

abbrev pub is_up_to : Option ℕ → Option ℕ → Bool
is_up_to first second = both_so (λ a b. nat_le a b) first second

-- It can't be held at the date.
abbrev pub is_misheld : ℕ → Bool → Option Message → List ℕ → Bool
is_misheld date begun before bytes =
    not (comes_after before bytes)
    || is_below (Some date) (found_at true 8 bytes)
    || is_below (found_at true 0 bytes) (found_at true 8 bytes)
    || is_up_to (found_at true 24 bytes) (found_at true 0 bytes)
    || begun && is_up_to (found_at true 24 bytes) (Some date)

-- Its visibility
unfoldable pub visible_at : ℕ → Bool → Option Message → List ℕ → Result (ℕ × List ℕ) ReadError
visible_at date begun before bytes = go_on (field_at (long_below FAR) bytes)
    (λ visible rest. unless_wrong (is_misheld date begun before bytes) 3 visible rest (length bytes))

-- A message, behind others
unfoldable pub message_at : ℕ → ℕ → Bool → List Ask → List Message → List ℕ → Result (List Message × List ℕ) ReadError
message_at agents date begun asks messages bytes = go_on (visible_at date begun (last_of messages) bytes) (λ visible rest.
    go_on (field_at (long_below FAR) rest) (λ entry behind_entry. go_on (field_at (one_of agents) behind_entry) (λ sender behind_sender.
    go_on (field_at any_number behind_sender) (λ number behind_number. go_on (field_at (long_below FAR) behind_number) (λ expiry behind_expiry.
    go_on (field_at any_number behind_expiry) (λ value last. Ok (
      messages ++ (record {
        visible = visible;
        entry = entry;
        sender = sender;
        number = number;
        expiry = expiry;
        value = cast_signed w32 value;
      }) ∷ [],
      last,
    )))))))

-- So many messages
abbrev pub messages_at : ℕ → ℕ → Bool → ℕ → List ℕ → Result (List Message × List ℕ) ReadError
messages_at agents date begun count bytes = each_at (message_at agents date begun) (replicate count (message_asks agents)) [] bytes

-- The agent of a number has begun.
abbrev pub begun_in : List AgentOpening → ℕ → Bool
begun_in agents agent = is_some (get_or agents agent (record { begun = None; count = 0; slack = None })).begun

-- The greatest number held, and how many there are
abbrev pub held_at : ℕ → List ℕ → Result ((ℕ × ℕ) × List ℕ) ReadError
held_at size bytes = go_on (field_at (up_to size) bytes) (λ held rest. go_on (field_at (up_to QUEUE) rest) (λ count more. Ok ((held, count), more)))

-- A stream, behind others
unfoldable pub stream_at : ℕ → List AgentOpening → StreamForm → List StreamOpening → List ℕ → Result (List StreamOpening × List ℕ) ReadError
stream_at date agents form streams bytes = go_on (held_at form.size bytes) (λ counts rest.
    go_on (messages_at (length agents) date (begun_in agents form.receiver) counts.1 rest)
    (λ messages last. Ok (streams ++ (record { held = counts.0; messages = messages }) ∷ [], last)))

-- ---- all of it

-- No more bytes
abbrev pub end_at : List ℕ → Result (⊤ × List ℕ) ReadError
end_at [] = Ok (tt, [])
end_at (byte ∷ bytes) = bad (length (byte ∷ bytes))

-- A state
unfoldable pub state_at : Form → List ℕ → Result (Opening × List ℕ) ReadError
state_at form bytes = go_on (head_at form.until bytes) (λ date rest. go_on (each_at (agent_at date) form.agents [] rest) (λ agents behind_agents.
    go_on (each_at (variable_at date) form.variables [] behind_agents) (λ variables behind_variables.
    go_on (each_at (stream_at date agents) form.streams [] behind_variables) (λ streams behind_streams. go_on (end_at behind_streams) (λ _ last.
    Ok (record { date = date; agents = agents; variables = variables; streams = streams }, last))))))

-- ---- what readers return

-- What a function returned, seen by view, is what reading gives, unless memory ran out.
abbrev pub Fails : {Y : Type 0} → ReadError → Result Y ReadError → Type 0
Fails errors.Memory reading = ⊤
Fails (errors.Bad number left) reading = reading ≡ Err (errors.Bad number left)

abbrev pub Gives : {X Y : Type 0} → (X → Y) → Result X ReadError → Result Y ReadError → Type 0
Gives view (Ok x) reading = reading ≡ Ok (view x)
Gives view (Err e) reading = Fails e reading

-- No more bytes are left than there are.
abbrev pub IsWithin : ℕ → ReadError → Type 0
IsWithin len (errors.Bad number left) = left ≤ len
IsWithin len errors.Memory = ⊤

-- The fault that an error is where there are so many bytes
abbrev pub fault_from : ℕ → ReadError → StateFault
fault_from len (errors.Bad number left) = fault.Fault number (len - left)
fault_from len errors.Memory = fault.Memory

-- What reading came to, as an answer
abbrev pub answer_of : ℕ → Result Opening ReadError → Result Opening StateFault
answer_of len (Ok opening) = Ok opening
answer_of len (Err error) = Err (fault_from len error)
