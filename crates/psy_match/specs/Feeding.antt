-- What the inputs of a program publish in a run.
use Rattle.std.specs.Prelude.{◌≡◌, ℕ, ℤ, Bool, true, false, List, [], ◌∷◌, bytes_eq, cond, get_or, length, map, nat_le, pos, Option, None, Some}
use Rattle.std.specs.List.{flat_map, list_all, list_any, range_with_len}
use Rattle.psy_clock.specs.Dates.{date}
use Rattle.psy_clock.specs.declared.clock.Clock.{Clock}
use Rattle.psy_draw.specs.Dates.{last_date}
use Rattle.psy_log.specs.declared.note.Note.{Note}
use Rattle.psy_log.specs.declared.note.Note.TheVariants as note
use Rattle.psy_tree.specs.declared.unit.Unit.{Unit as Whole}
use Rattle.psy_tree.specs.Parts.{clock_in, variable_at}

-- A value that a variable publishes at a date
pub record Published : Type 0 where
  pub name : List ℕ
  pub date : ℕ
  pub value : ℤ

-- What notes tell of values
abbrev pub published_by : Note → List Published
published_by (note.Value date variable value) = record { name = variable.now; date = date; value = value } ∷ []
published_by _ = []

-- The values that an input publishes one after the other, of which the last one stays: those of its list, or its first value where it has none
abbrev pub values_of : ℤ → List ℤ → List ℤ
values_of init [] = init ∷ []
values_of init (value ∷ values) = value ∷ values

-- The value of a number, at the date of this number of a clock, where that isn't past the last date
abbrev pub published_at : List ℕ → Clock → ℕ → List ℤ → ℕ → List Published
published_at name clock last values number =
    cond (nat_le (date clock number) last) (record { name = name; date = date clock number; value = get_or values number (pos 0) } ∷ []) []

-- Values at a clock's dates
abbrev pub published_on : List ℕ → Clock → ℕ → List ℤ → List Published
published_on name clock last values = flat_map (published_at name clock last values) (range_with_len 0 (length values))

-- What a variable without an owner, which is an input, publishes
abbrev pub published_by_input : Whole → List (List ℤ) → ℕ → ℕ → Option ℕ → List Published
published_by_input unit lists last number (Some owner) = []
published_by_input unit lists last number None =
    published_on (variable_at unit number).name (clock_in unit (variable_at unit number).clock) last
    (values_of (variable_at unit number).init (get_or lists number []))

abbrev pub input_values : Whole → List (List ℤ) → ℕ → ℕ → List Published
input_values unit lists last number = published_by_input unit lists last number (variable_at unit number).owner

-- What the inputs of a program publish up to a date, one behind the other
abbrev pub all_input_values : Whole → List (List ℤ) → ℕ → List Published
all_input_values unit lists last = flat_map (input_values unit lists last) (range_with_len 0 (length unit.variables))

-- The names of a program's variables
abbrev pub variable_names : Whole → List (List ℕ)
variable_names unit = map (λ variable. variable.name) unit.variables

-- The note tells a value of a variable of these names.
abbrev pub is_value_of : List (List ℕ) → Note → Bool
is_value_of names (note.Value date variable value) = list_any (bytes_eq variable.now) names
is_value_of names _ = false

-- These notes are what the inputs of a program publish up to the end of a run.
pub record AreFed (unit : Whole) (lists : List (List ℤ)) (notes more : List Note) : Type 0 where
  pub values : flat_map published_by more ≡ all_input_values unit lists (last_date notes)
  pub alone : list_all (is_value_of (variable_names unit)) more ≡ true
