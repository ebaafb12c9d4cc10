-- The values that variables have at the first date.
use Rattle.std.specs.Prelude.{ℕ, Bool, true, List, Option, None, Some, bytes_eq, get_or}
use Rattle.std.specs.List.{position}
use Rattle.psy_log.specs.declared.note.Note.{Note}
use Rattle.psy_log.specs.declared.note.Note.TheVariants as note
use Rattle.psy_draw.specs.declared.firsts.Firsts.{Firsts}
use Rattle.psy_draw.specs.declared.values.Told.{Told}
use Rattle.psy_draw.specs.Told.{is_same}

-- What stands at a place, where there is one
abbrev pub told_at : List (Option Told) → Option ℕ → Option Told
told_at told None = None
told_at told (Some place) = get_or told place None

-- The value of a variable, where it is there and has one
abbrev pub told_of : Firsts → List ℕ → Option Told
told_of firsts name = told_at firsts.told.items (position (bytes_eq name) firsts.names)

-- Both tell the same of the variable in a line of the summary, where it is one of a variable.
abbrev pub agree_on : Firsts → Firsts → Note → Bool
agree_on some other (note.VariableEnd variable size reach) = is_same (told_of some variable.now) (told_of other variable.now)
agree_on some other _ = true
