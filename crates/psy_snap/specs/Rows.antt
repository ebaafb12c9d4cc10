-- States that were worked out by hand, and the least fault of each.
use Rattle.std.specs.Prelude.{◌≡◌, ℕ, List, [], ◌∷◌, ◌++◌, map, take, Option, Some, None, pos}
use Rattle.psy_arith.specs.declared.width.Width.TheVariants as width
use Rattle.psy_snap.specs.Bytes.{long_bytes, mark, number_bytes}
use Rattle.psy_snap.specs.Faults.{Fault, faults_of, least_fault}
use Rattle.psy_snap.specs.Forms.{AgentForm, Form, VarForm}

-- A form, bytes, and the least fault of the bytes by the form
pub record Row : Type 0 where
  pub form : Form
  pub bytes : List ℕ
  pub fault : Option Fault

-- The least faults are these.
abbrev pub AreFound : List Row → Type 0
AreFound rows = map (λ (row : Row). least_fault (faults_of row.form row.bytes)) rows ≡ map (λ row. row.fault) rows

abbrev pub at : ℕ → ℕ → Option Fault
at number place = Some (record { number = number; place = place })

-- ---- a fast agent and a slow one, with a variable each

abbrev fast : AgentForm
fast = record {
  first = 0;
  points = 2;
  cells = Some width.W32 ∷ [];
  copies = 1;
  periods = 2 ∷ [];
  nodes = (record { point = 0; phase = 0; due = 2; budget = 8 }) ∷ (record { point = 1; phase = 0; due = 2; budget = 8 }) ∷ [];
}

abbrev slow : AgentForm
slow = record {
  first = 0;
  points = 2;
  cells = [];
  copies = 1;
  periods = 10 ∷ [];
  nodes = (record { point = 0; phase = 0; due = 10; budget = 50 }) ∷ (record { point = 1; phase = 0; due = 10; budget = 50 }) ∷ [];
}

abbrev variable_v : VarForm
variable_v = record { size = 5; clock = record { period = 2; first = 0 }; init = pos 0 }

abbrev variable_w : VarForm
variable_w = record { size = 1; clock = record { period = 10; first = 0 }; init = pos 0 }

abbrev two_up_to : ℕ → Form
two_up_to until = record { until = until; agents = fast ∷ slow ∷ []; variables = variable_v ∷ variable_w ∷ []; streams = [] }

abbrev fast_bytes : ℕ → ℕ → ℕ → List ℕ
fast_bytes kind number point = number_bytes kind ++ (long_bytes number ++ (number_bytes point ++ (long_bytes 5 ++ (number_bytes 5
    ++ (long_bytes 5 ++ (number_bytes 1 ++ long_bytes 12))))))

abbrev slow_bytes : List ℕ
slow_bytes = number_bytes 1 ++ (long_bytes 1 ++ (number_bytes 1 ++ (number_bytes 0 ++ (long_bytes 1 ++ (number_bytes 1 ++ long_bytes 90)))))

abbrev variables_bytes : List ℕ
variables_bytes = number_bytes 5 ++ (number_bytes 4 ++ (number_bytes 3 ++ (number_bytes 2 ++ (number_bytes 1 ++ (number_bytes 1 ++ (number_bytes 0
    ++ (number_bytes 0 ++ number_bytes 0)))))))

-- At a date, with the fast agent's kind, number and point
abbrev state : ℕ → ℕ → ℕ → ℕ → List ℕ
state date kind number point = mark ++ (number_bytes date ++ (fast_bytes kind number point ++ (slow_bytes ++ variables_bytes)))

abbrev two : List ℕ → Option Fault → Row
two bytes fault = record { form = two_up_to 20; bytes = bytes; fault = fault }

-- Bytes that are as they should be, cut, or one too many
abbrev pub fields : List Row
fields =
    two (state 10 1 5 1) None
    ∷ (record { form = two_up_to 5; bytes = state 10 1 5 1; fault = at 1 5 })
    ∷ two (80 ∷ []) (at 1 0)
    ∷ two (take 8 (state 10 1 5 1)) (at 1 5)
    ∷ two (take 40 (state 10 1 5 1)) (at 1 37)
    ∷ two (state 10 1 5 1 ++ 0 ∷ []) (at 1 133)
    ∷ (record { form = record { until = 2; agents = []; variables = []; streams = [] }; bytes = mark ++ number_bytes 0; fault = None })
    ∷ []

-- Agents that can't be so at the date, or whose fields are out of range
abbrev pub agents : List Row
agents =
    two (state 10 0 5 1) (at 2 9)
    ∷ two (state 10 3 5 1) (at 1 9)
    ∷ two (state 9 1 5 1) (at 2 9)
    ∷ two (state 10 1 2 1) None
    ∷ two (state 10 1 16777221 1) (at 1 13)
    ∷ two (state 10 1 5 9) (at 2 9)
    ∷ []

-- ---- a stream that holds two messages

abbrev idle : AgentForm
idle = record { first = 0; points = 1; cells = []; copies = 0; periods = 1 ∷ []; nodes = [] }

abbrev stream_form : Form
stream_form = record { until = 20; agents = idle ∷ idle ∷ []; variables = []; streams = (record { size = 10; receiver = 1 }) ∷ [] }

abbrev idle_bytes : List ℕ
idle_bytes = number_bytes 2 ++ (long_bytes 0 ++ number_bytes 0)

abbrev message : ℕ → ℕ → ℕ → ℕ → List ℕ
message visible entry sender expiry =
    long_bytes visible ++ (long_bytes entry ++ (number_bytes sender ++ (number_bytes 0 ++ (long_bytes expiry ++ number_bytes 7))))

abbrev held : List ℕ → List ℕ → List ℕ
held first second = mark ++ (number_bytes 6 ++ (idle_bytes ++ (idle_bytes ++ (number_bytes 2 ++ (number_bytes 2 ++ (first ++ second))))))

abbrev second : List ℕ
second = message 9 6 0 15

abbrev both : List ℕ → Option Fault → Row
both bytes fault = record { form = stream_form; bytes = bytes; fault = fault }

-- Messages that can't be held at the date, or whose fields are cut or out of range
abbrev pub messages : List Row
messages =
    both (held (message 6 3 0 12) second) None
    ∷ both (held (message 6 7 0 12) second) (at 3 49)
    ∷ both (held (message 6 3 0 6) second) (at 3 49)
    ∷ both (held (message 11 3 0 12) second) (at 3 85)
    ∷ both (held (message 6 3 0 12) (message 6 3 0 12)) (at 3 85)
    ∷ both (held (message 6 3 5 12) second) (at 1 65)
    ∷ both (take 118 (held (message 6 3 0 12) second)) (at 1 117)
    ∷ []
