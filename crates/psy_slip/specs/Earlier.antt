-- Which earlier line of inputs or of a script says the same as a line: gives an input its values, stalls there, or tells the order or the round
-- from that cycle on.
use Rattle.std.specs.Prelude.{ℕ, suc, Bool, false, ◌&&◌, if◌then◌else◌, List, [], ◌∷◌, bytes_eq, Option, None, Some, option_map}
use Rattle.psy_slip.specs.declared.slip.File.{File}
use Rattle.psy_slip.specs.declared.slip.File.TheVariants.{Program, Inputs, Script}
use Rattle.psy_slip.specs.declared.statement.Statement.{Statement}
use Rattle.psy_slip.specs.declared.statement.Statement.TheVariants.{Stall, Order, Round}
use Rattle.psy_slip.specs.Numbers.{is_same_number}
use Rattle.psy_slip.specs.Statements.{statement_of}
use Rattle.psy_text.specs.Lines.{lines_of}
use Rattle.psy_text.specs.Words.{words_of}

-- Two lines, by their words, are of one name.
abbrev pub is_same_name : List (List ℕ) → List (List ℕ) → Bool
is_same_name (name ∷ values) (other ∷ others) = bytes_eq name other
is_same_name _ _ = false

-- Two stalls, by the words behind `stall`, are of one instruction of one action of one agent.
unfoldable pub is_same_stall : List (List ℕ) → List (List ℕ) → Bool
is_same_stall (agent ∷ action ∷ instr ∷ cycles ∷ []) (other ∷ act ∷ place ∷ taken ∷ []) =
    bytes_eq agent other && (is_same_number action act && is_same_number instr place)
is_same_stall _ _ = false

-- Two orders or two rounds, by the words behind `order` or `round`, begin with one cycle.
unfoldable pub is_same_cycle : List (List ℕ) → List (List ℕ) → Bool
is_same_cycle (cycle ∷ names) (other ∷ others) = is_same_number cycle other
is_same_cycle _ _ = false

-- Two statements, by the words behind them, say the same.
abbrev pub say_same : Option Statement → Option Statement → List (List ℕ) → List (List ℕ) → Bool
say_same (Some Stall) (Some Stall) words others = is_same_stall words others
say_same (Some Order) (Some Order) words others = is_same_cycle words others
say_same (Some Round) (Some Round) words others = is_same_cycle words others
say_same _ _ words others = false

-- Two lines of a script, by their words, do.
abbrev pub is_same_statement : List (List ℕ) → List (List ℕ) → Bool
is_same_statement (word ∷ words) (other ∷ others) = say_same (statement_of word) (statement_of other) words others
is_same_statement _ _ = false

-- Two lines of a file, by their words, say the same; of a program's nothing is told.
abbrev pub is_said_by : File → List (List ℕ) → List (List ℕ) → Bool
is_said_by Program words others = false
is_said_by Inputs words others = is_same_name words others
is_said_by Script words others = is_same_statement words others

-- The number, from 1, of the first element that passes a test
abbrev pub first_number : {X : Type 0} → (X → Bool) → List X → Option ℕ
first_number p [] = None
first_number p (x ∷ xs) = if p x then Some 1 else option_map suc (first_number p xs)

-- The number, from 1, of the first line of a text that says the same as these words
abbrev pub first_like : File → List (List ℕ) → List ℕ → Option ℕ
first_like file words text = first_number (λ line. is_said_by file words (words_of line)) (lines_of text)
