-- Which names of an order may be no agents, by the lines of a script before it. The first line at fault is refused, so those before it name agents alone.
use Rattle.std.specs.Prelude.{ℕ, Bool, false, not, List, ◌∷◌, bytes_eq, filter, Option, Some}
use Rattle.std.specs.List.{list_any}
use Rattle.psy_slip.specs.declared.statement.Statement.{Statement}
use Rattle.psy_slip.specs.declared.statement.Statement.TheVariants.{Stall, Order}
use Rattle.psy_slip.specs.Statements.{is_among, statement_of}
use Rattle.psy_text.specs.Lines.{lines_of}
use Rattle.psy_text.specs.Words.{words_of}

-- A statement, by the words behind it, names this agent: as that of a stall, or as one of those of an order.
abbrev pub names_in : Option Statement → List ℕ → List ℕ → List (List ℕ) → Bool
names_in (Some Stall) name one more = bytes_eq name one
names_in (Some Order) name one more = is_among Order more name
names_in _ name one more = false

-- A line does, by its words.
abbrev pub names_agent : List ℕ → List (List ℕ) → Bool
names_agent name (word ∷ one ∷ more) = names_in (statement_of word) name one more
names_agent name _ = false

-- Some line of a text does.
abbrev pub is_known : List ℕ → List ℕ → Bool
is_known text name = list_any (λ line. names_agent name (words_of line)) (lines_of text)

-- Those names that no line of a text names
abbrev pub strangers : List ℕ → List (List ℕ) → List (List ℕ)
strangers text names = filter (λ name. not (is_known text name)) names
