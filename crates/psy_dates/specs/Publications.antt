-- What a date does to the rings: a variable whose clock has that date publishes a value.
use Rattle.std.specs.Prelude.{ℕ, if◌then◌else◌, List, ◌∷◌, take, length, get_or, Option, Some, None, ℤ, pos}
use Rattle.psy_history.specs.Actions.{System, publishing, variable_of}
use Rattle.psy_history.specs.Lines.{is_date}
use Rattle.psy_history.specs.Visible.{input_value}

-- The value that a variable publishes at a date, by its owner, where these values are committed: an input that of its list
abbrev pub value_by : System → List ℤ → ℕ → ℕ → Option ℕ → ℤ
value_by s committed date variable (Some owner) = get_or committed variable (pos 0)
value_by s committed date variable None = input_value s variable date

-- The value that a variable publishes at a date, where these values are committed
abbrev pub value_at : System → List ℤ → ℕ → ℕ → ℤ
value_at s committed date variable = value_by s committed date variable (variable_of s variable).owner

-- The ring of a variable behind a date: at a date of its clock the value is the newest, and the oldest is gone.
abbrev pub ring_then : System → List ℤ → ℕ → ℕ → List ℤ → List ℤ
ring_then s committed date variable ring = if is_date (publishing s variable) date then take (length ring) (value_at s committed date variable ∷ ring) else ring
