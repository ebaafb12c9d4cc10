-- The notes that a text can tell: those whose names are words and whose numbers have the bits of their place.
use Rattle.std.specs.Prelude.{ℕ, ◌^◌, ◌<◌, FitsSigned, List, [], ◌∷◌, Option, None, Some}
use Rattle.std.specs.Int.{w32}
use Rattle.psy_text.specs.Fronts.{IsName}
use Rattle.psy_log.specs.declared.form.Sort.{Sort}
use Rattle.psy_log.specs.declared.form.Sort.TheVariants.{Short, Long, Value, Name, ShortOrDash, LongOrDash, Kind}
use Rattle.psy_log.specs.declared.note.Note.{Note}
use Rattle.psy_log.specs.Forms.{says}
use Rattle.psy_log.specs.Table.{Place, Word, Any, fields_of, Said, short, long, value, name, short_or_none, long_or_none, kind}

-- A number of 32 bits
abbrev pub IsShort : ℕ → Type 0
IsShort number = number < 2 ^ 32

-- A number of 64 bits
abbrev pub IsLong : ℕ → Type 0
IsLong number = number < 2 ^ 64

-- None, or one of that sort
abbrev pub OrNone : (ℕ → Type 0) → Option ℕ → Type 0
OrNone sort None = Unit {0}
OrNone sort (Some number) = sort number

-- What is said is of this sort, and fits it.
abbrev pub Fits : Sort → Said → Type 0
Fits Short (short number) = IsShort number
Fits Long (long number) = IsLong number
Fits Value (value number) = FitsSigned w32 number
Fits Name (name bytes) = IsName bytes
Fits ShortOrDash (short_or_none number) = OrNone IsShort number
Fits LongOrDash (long_or_none number) = OrNone IsLong number
Fits Kind (kind trap) = Unit {0}
Fits _ _ = ⊥

-- What is said fits the places, in their order.
abbrev pub Fills : List Place → List Said → Type 0
Fills [] [] = Unit {0}
Fills [] (next ∷ said) = ⊥
Fills (Word word ∷ places) said = Fills places said
Fills (Any what ∷ places) [] = ⊥
Fills (Any what ∷ places) (next ∷ said) = Fits what next × Fills places said

-- What the note says fits the places of its form.
abbrev pub IsTold : Note → Type 0
IsTold note = Fills (fields_of (says note).0) (says note).1
