-- The bytes of a state cut into fields, as far as they go. What is cut depends on kinds, flags and counts alone, be they right or wrong.
use Rattle.std.specs.Prelude.{ℕ, zero, suc, ◌+◌, Bool, true, false, ◌||◌, ◌==◌, nat_lt, nat_le, if◌then◌else◌, List, [], ◌∷◌}
use Rattle.std.specs.Prelude.{◌++◌, length, map, take, drop, replicate, Option, Some, None}
use Rattle.std.specs.Int.{w32, w64, from_le_bytes, cast_signed}
use Rattle.std.specs.List.{range_with_len}
use Rattle.std.specs.Ordering.{int_eq}
use Rattle.psy_arith.specs.declared.width.Width.{Width}
use Rattle.psy_base.specs.declared.limits.TheConstants.{QUEUE, UNTIL}
use Rattle.psy_snap.specs.declared.limits.TheConstants.{FAR, FIGURE}
use Rattle.psy_snap.specs.Forms.{AgentForm, Form, StreamForm, VarForm, fits_type, published_by}

-- A number that stands in the bytes: behind how many bytes, which one, None where it is cut, and whether it is in its range
pub record Field : Type 0 where
  pub place : ℕ
  pub value : Option ℕ
  pub good : Bool

-- Where cutting goes on: behind how many bytes, and at which. None: a field was cut, and nothing more is read.
abbrev pub At : Type 0
At = Option (ℕ × List ℕ)

-- What is asked of a field: whether it is a long one, and the range of its number
pub record Ask : Type 0 where
  pub long : Bool
  pub range : ℕ → Bool

-- Fields, and where it goes on behind them
pub record Cut : Type 0 where
  pub fields : List Field
  pub on : At

-- ---- fields

abbrev pub width_of : Bool → ℕ
width_of long = if long then 8 else 4

-- The number that so many bytes spell
abbrev pub number_in : Bool → List ℕ → ℕ
number_in long bytes = if long then from_le_bytes w64 (take 8 bytes) else from_le_bytes w32 (take 4 bytes)

abbrev pub field_in : Ask → ℕ → List ℕ → Field
field_in ask place bytes = record { place = place; value = Some (number_in ask.long bytes); good = ask.range (number_in ask.long bytes) }

abbrev pub cut_field : ℕ → Field
cut_field place = record { place = place; value = None; good = false }

-- A field at a place
unfoldable pub cut_one : Ask → ℕ → List ℕ → Cut
cut_one ask place bytes =
    if nat_lt (length bytes) (width_of ask.long)
    then record { fields = cut_field place ∷ []; on = None }
    else record { fields = field_in ask place bytes ∷ []; on = Some (place + width_of ask.long, drop (width_of ask.long) bytes) }

abbrev pub cut_at : Ask → At → Cut
cut_at ask None = record { fields = []; on = None }
cut_at ask (Some at) = cut_one ask at.0 at.1

-- One part and what goes on behind it
abbrev pub behind : Cut → (At → Cut) → Cut
behind cut next = record { fields = cut.fields ++ (next cut.on).fields; on = (next cut.on).on }

-- Some fields
unfoldable pub cut_fields : List Ask → At → Cut
cut_fields [] at = record { fields = []; on = at }
cut_fields (ask ∷ asks) at = behind (cut_at ask at) (cut_fields asks)

-- The number of the last field: 0 where it is cut
abbrev pub or_zero : Option ℕ → ℕ
or_zero None = 0
or_zero (Some n) = n

abbrev pub last_number : List Field → ℕ
last_number [] = 0
last_number (f ∷ []) = or_zero f.value
last_number (f ∷ g ∷ fields) = last_number (g ∷ fields)

-- Fields, and those behind them that the last one's number asks for
abbrev pub followed : Cut → (ℕ → List Ask) → Cut
followed cut more = behind cut (cut_fields (more (last_number cut.fields)))

-- ---- what is asked

-- A number up to this one
abbrev pub up_to : ℕ → Ask
up_to most = record { long = false; range = λ n. nat_le n most }

-- One of so many
abbrev pub one_of : ℕ → Ask
one_of count = record { long = false; range = λ n. nat_lt n count }

abbrev pub long_below : ℕ → Ask
long_below limit = record { long = true; range = λ n. nat_lt n limit }

abbrev pub any_number : Ask
any_number = record { long = false; range = λ n. true }

-- A cell of the type
abbrev pub cell_of : Option Width → Ask
cell_of type = record { long = true; range = λ n. fits_type type (cast_signed w64 n) }

-- ---- an agent

-- The number, the point and the cells of an action
abbrev pub action_asks : AgentForm → List Ask
action_asks form = long_below (suc UNTIL) ∷ one_of form.points ∷ map cell_of form.cells

abbrev pub copies_asks : AgentForm → List Ask
copies_asks form = replicate form.copies any_number

-- What an agent of a kind has
abbrev pub kind_asks : AgentForm → ℕ → List Ask
kind_asks form (suc zero) = action_asks form ++ copies_asks form
kind_asks form (suc (suc zero)) = copies_asks form
kind_asks form kind = []

-- It is 1 exactly where the number before it isn't 0.
abbrev pub flag_after : ℕ → Ask
flag_after count = record { long = false; range = λ n. n == (if count == 0 then 0 else 1) }

-- A number behind a flag of 1
abbrev pub where_one : Ask → ℕ → List Ask
where_one ask flag = if flag == 1 then ask ∷ [] else []

-- COUNT, and SLACK by a flag
unfoldable pub cut_figures : At → Cut
cut_figures at = followed (followed (cut_at (long_below FIGURE) at) (λ count. flag_after count ∷ [])) (where_one (long_below FIGURE))

-- An agent
unfoldable pub cut_agent : AgentForm → At → Cut
cut_agent form at = behind (followed (cut_at (up_to 2) at) (kind_asks form)) cut_figures

-- ---- a variable

-- The value at a place of a ring: behind those that were published it is the first value.
abbrev pub ring_ask : VarForm → ℕ → ℕ → Ask
ring_ask form date back = record { long = false; range = λ n. nat_lt back (published_by form date) || int_eq (cast_signed w32 n) form.init }

-- A variable
unfoldable pub cut_variable : VarForm → ℕ → At → Cut
cut_variable form date at = followed (cut_fields (map (ring_ask form date) (range_with_len 0 form.size) ++ up_to 1 ∷ []) at) (where_one (one_of form.size))

-- ---- a stream

-- Visibility, entry, sender, number, expiry and value
abbrev pub message_asks : ℕ → List Ask
message_asks agents = long_below FAR ∷ long_below FAR ∷ one_of agents ∷ any_number ∷ long_below FAR ∷ any_number ∷ []

-- The greatest number held, and how many there are
abbrev pub held_asks : StreamForm → List Ask
held_asks form = up_to form.size ∷ up_to QUEUE ∷ []

-- So many of them: none where there are more than a stream may hold
abbrev pub messages_by : ℕ → ℕ
messages_by count = if nat_le count QUEUE then count else 0

-- ---- one after the other

-- A part for each of a list
unfoldable pub cut_each : {F : Type 0} → (F → At → Cut) → List F → At → List Cut
cut_each cut [] at = []
cut_each cut (form ∷ forms) at = cut form at ∷ cut_each cut forms (cut form at).on

-- Where it goes on behind them
unfoldable pub on_behind : List Cut → At → At
on_behind [] at = at
on_behind (cut ∷ cuts) at = on_behind cuts cut.on

-- A stream: its numbers, and its messages
pub record StreamCut : Type 0 where
  pub head : Cut
  pub messages : List Cut

unfoldable pub cut_stream : ℕ → StreamForm → At → StreamCut
cut_stream agents form at =
    let head = cut_fields (held_asks form) at in
    record { head = head; messages = cut_each (λ asks. cut_fields asks) (replicate (messages_by (last_number head.fields)) (message_asks agents)) head.on }

abbrev pub on_behind_stream : StreamCut → At
on_behind_stream cut = on_behind cut.messages cut.head.on

-- The streams
unfoldable pub cut_streams : ℕ → List StreamForm → At → List StreamCut
cut_streams agents [] at = []
cut_streams agents (form ∷ forms) at = cut_stream agents form at ∷ cut_streams agents forms (on_behind_stream (cut_stream agents form at))

unfoldable pub on_behind_streams : List StreamCut → At → At
on_behind_streams [] at = at
on_behind_streams (cut ∷ cuts) at = on_behind_streams cuts (on_behind_stream cut)

-- ---- all of it

-- A state: its date, its agents, variables and streams, and where it goes on behind all of them
pub record StateCut : Type 0 where
  pub date : Cut
  pub agents : List Cut
  pub variables : List Cut
  pub streams : List StreamCut
  pub rest : At

-- Behind the mark with which a state begins, be it there or not
abbrev pub behind_mark : List ℕ → At
behind_mark bytes = Some (5, drop 5 bytes)

unfoldable pub cut_state : Form → List ℕ → StateCut
cut_state form bytes =
    let date = cut_at (up_to form.until) (behind_mark bytes) in
    let agents = cut_each cut_agent form.agents date.on in
    let variables = cut_each (λ variable. cut_variable variable (last_number date.fields)) form.variables (on_behind agents date.on) in
    let streams = cut_streams (length form.agents) form.streams (on_behind variables (on_behind agents date.on)) in
    record {
      date = date;
      agents = agents;
      variables = variables;
      streams = streams;
      rest = on_behind_streams streams (on_behind variables (on_behind agents date.on));
    }
