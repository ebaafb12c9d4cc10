-- The statements of a script, and words that are alike in them.
use Rattle.std.specs.Prelude.{ℕ, Bool, if◌then◌else◌, List, [], ◌∷◌, codes, bytes_eq, Option, None, Some}
use Rattle.std.specs.List.{list_any}
use Rattle.psy_slip.specs.declared.statement.Statement.{Statement}
use Rattle.psy_slip.specs.declared.statement.Statement.TheVariants.{Stall, Order, Round}
use Rattle.psy_slip.specs.Numbers.{is_same_number}

-- The statement that begins with this word
abbrev pub statement_of : List ℕ → Option Statement
statement_of word =
    if bytes_eq word (codes "stall") then Some Stall
    else if bytes_eq word (codes "order") then Some Order
    else if bytes_eq word (codes "round") then Some Round
    else None

-- Two words behind the cycle of a statement are alike: in a round one number, else one name.
abbrev pub is_alike : Statement → List ℕ → List ℕ → Bool
is_alike Round word other = is_same_number word other
is_alike _ word other = bytes_eq word other

-- A word is like one of these.
abbrev pub is_among : Statement → List (List ℕ) → List ℕ → Bool
is_among statement words word = list_any (λ other. is_alike statement word other) words

-- The first word that stands again behind itself
abbrev pub first_twice : Statement → List (List ℕ) → Option (List ℕ)
first_twice statement [] = None
first_twice statement (word ∷ words) = if is_among statement words word then Some word else first_twice statement words
