-- The three faults of a state's bytes, each by its number and how many bytes stand before it, and the least of them.
use Rattle.std.specs.Prelude.{ℕ, zero, suc, Bool, true, false, not, ◌&&◌, ◌||◌, ◌==◌, nat_eq, nat_lt, nat_le, if◌then◌else◌, List, [], ◌∷◌}
use Rattle.std.specs.Prelude.{◌++◌, get_or, slice_get, Option, Some, None}
use Rattle.std.specs.List.{flat_map, starts_with}
use Rattle.psy_code.specs.Views.{found_in}
use Rattle.psy_snap.specs.Bytes.{mark}
use Rattle.psy_snap.specs.Cuts.{At, Cut, Field, StateCut, StreamCut, cut_state, last_number}
use Rattle.psy_snap.specs.Forms.{AgentForm, Form, StreamForm, may_start}

-- A fault
pub record Fault : Type 0 where
  pub number : ℕ
  pub place : ℕ

-- One where it is so
abbrev pub where_so : Bool → ℕ → ℕ → List Fault
where_so b number place = if b then record { number = number; place = place } ∷ [] else []

-- ---- fault 1: a field that is missing, cut, out of its range, or surplus

abbrev pub field_faults : Field → List Fault
field_faults field = where_so (not field.good) 1 field.place

abbrev pub faults_in : List Field → List Fault
faults_in = flat_map field_faults

abbrev pub mark_faults : List ℕ → List Fault
mark_faults bytes = where_so (not (starts_with nat_eq bytes mark)) 1 0

abbrev pub surplus : At → List Fault
surplus None = []
surplus (Some (place, [])) = []
surplus (Some (place, byte ∷ bytes)) = record { number = 1; place = place } ∷ []

-- ---- fault 2: an agent that can't be so at the date

-- The point is there, and no action of the agent may start at it at the date.
abbrev pub starts_wrong : AgentForm → ℕ → Option ℕ → Bool
starts_wrong form date None = false
starts_wrong form date (Some point) = not (may_start form point date)

-- What the fields say of their number i, where they go so far
abbrev pub value_at : List Field → ℕ → Option ℕ
value_at fields i = found_in (slice_get fields i) (λ (f : Field). f.value)

-- It hasn't begun though its first date has come, starts an action though its first date hasn't, or starts one where none may start.
unfoldable pub is_wrong_kind : AgentForm → ℕ → List Field → Option ℕ → Bool
is_wrong_kind form date fields (Some zero) = nat_le form.first date
is_wrong_kind form date fields (Some (suc zero)) = nat_lt date form.first || starts_wrong form date (value_at fields 2)
is_wrong_kind form date fields kind = false

-- Faults of a part, of which one kind has its place at the part's first field
abbrev pub part_faults : ℕ → (List Field → Bool) → List Field → List Fault
part_faults number wrong [] = []
part_faults number wrong (f ∷ fields) = where_so (wrong (f ∷ fields)) number f.place ++ faults_in (f ∷ fields)

abbrev pub agent_faults : AgentForm → ℕ → Cut → List Fault
agent_faults form date cut = part_faults 2 (λ fields. is_wrong_kind form date fields (value_at fields 0)) cut.fields

abbrev pub has_begun_by : Option ℕ → Bool
has_begun_by (Some (suc zero)) = true
has_begun_by (Some (suc (suc zero))) = true
has_begun_by kind = false

-- The agent has begun.
abbrev pub has_begun : Cut → Bool
has_begun cut = has_begun_by (value_at cut.fields 0)

-- ---- fault 3: a message that can't be held at the date

-- Both numbers are there, and stand so to each other.
abbrev pub both_so : (ℕ → ℕ → Bool) → Option ℕ → Option ℕ → Bool
both_so test (Some a) (Some b) = test a b
both_so test a b = false

-- The first numbers are in order, the later behind; as far as they are there. No two are the same.
abbrev pub rises : List (Option ℕ) → List (Option ℕ) → Bool
rises (Some a ∷ first) (Some b ∷ second) = nat_lt a b || a == b && rises first second
rises [] [] = false
rises first second = true

-- Visibility, entry, sender and number
abbrev pub key_in : List Field → List (Option ℕ)
key_in fields = value_at fields 0 ∷ value_at fields 1 ∷ value_at fields 2 ∷ value_at fields 3 ∷ []

abbrev pub is_behind : Option (List Field) → List Field → Bool
is_behind None fields = true
is_behind (Some before) fields = rises (key_in before) (key_in fields)

-- It isn't behind the one before it, entered above the date, can be seen before it entered, expires where it can first be seen or before, or has
-- expired though its receiver has begun. What isn't there isn't judged.
unfoldable pub is_wrong_message : ℕ → Bool → Option (List Field) → List Field → Bool
is_wrong_message date begun before fields =
    not (is_behind before fields)
    || both_so (λ entry d. nat_lt d entry) (value_at fields 1) (Some date)
    || both_so (λ visible entry. nat_lt visible entry) (value_at fields 0) (value_at fields 1)
    || both_so (λ visible expiry. nat_le expiry visible) (value_at fields 0) (value_at fields 4)
    || begun && both_so (λ expiry d. nat_le expiry d) (value_at fields 4) (Some date)

-- The faults of messages, behind one
unfoldable pub messages_faults : ℕ → Bool → Option (List Field) → List Cut → List Fault
messages_faults date begun before [] = []
messages_faults date begun before (cut ∷ cuts) =
    part_faults 3 (is_wrong_message date begun before) cut.fields ++ messages_faults date begun (Some cut.fields) cuts

abbrev pub stream_faults : ℕ → Bool → StreamCut → List Fault
stream_faults date begun cut = faults_in cut.head.fields ++ messages_faults date begun None cut.messages

-- ---- all of them

unfoldable pub agents_faults : ℕ → List AgentForm → List Cut → List Fault
agents_faults date [] cuts = []
agents_faults date (form ∷ forms) [] = []
agents_faults date (form ∷ forms) (cut ∷ cuts) = agent_faults form date cut ++ agents_faults date forms cuts

abbrev pub nothing_cut : Cut
nothing_cut = record { fields = []; on = None }

abbrev pub receives : List Cut → StreamForm → Bool
receives agents form = has_begun (get_or agents form.receiver nothing_cut)

unfoldable pub streams_faults : ℕ → List Cut → List StreamForm → List StreamCut → List Fault
streams_faults date agents [] cuts = []
streams_faults date agents (form ∷ forms) [] = []
streams_faults date agents (form ∷ forms) (cut ∷ cuts) = stream_faults date (receives agents form) cut ++ streams_faults date agents forms cuts

unfoldable pub faults_by : Form → List ℕ → StateCut → List Fault
faults_by form bytes cut =
    let date = last_number cut.date.fields in
    mark_faults bytes ++ (faults_in cut.date.fields ++ (agents_faults date form.agents cut.agents
    ++ (flat_map (λ (c : Cut). faults_in c.fields) cut.variables ++ (streams_faults date cut.agents form.streams cut.streams ++ surplus cut.rest))))

-- All faults of the bytes by a form
unfoldable pub faults_of : Form → List ℕ → List Fault
faults_of form bytes = faults_by form bytes (cut_state form bytes)

-- The one with the least place, and of those the one with the least number
abbrev pub stands_before : Fault → Fault → Bool
stands_before f g = nat_lt f.place g.place || f.place == g.place && nat_lt f.number g.number

abbrev pub lesser : Fault → Option Fault → Fault
lesser f None = f
lesser f (Some g) = if stands_before g f then g else f

unfoldable pub least_fault : List Fault → Option Fault
least_fault [] = None
least_fault (f ∷ faults) = Some (lesser f (least_fault faults))
