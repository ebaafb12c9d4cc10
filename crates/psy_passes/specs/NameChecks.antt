-- Names that a summary lists, as notes come.
use Rattle.std.specs.Prelude.{◌≡◌, ◌⊎◌, ℕ, ◌+◌, ◌-◌, ◌^◌, Bool, true, false, not, List, [], ◌∷◌, Option, None, Some, map, min}
use Rattle.std.specs.List.{position}
use Rattle.psy_log.specs.declared.note.Note.{Note}
use Rattle.psy_log.specs.declared.note.Note.TheVariants as note
use Rattle.psy_log.specs.Forms.{says}
use Rattle.psy_notes.specs.Stands.{run_begins}
use Rattle.psy_notes.specs.Texts.{IsText, text_of}
use Rattle.psy_passes.specs.declared.listed.Listed.{Listed}
use Rattle.psy_passes.specs.Listing.{agents_in, streams_in, variables_in}
use Rattle.psy_passes.specs.Tables.{is_among}
use Rattle.psy_passes.specs.Runs.{tail_of}
use Rattle.psy_passes.specs.declared.name_check.NameCheck.{NameCheck}
use Rattle.psy_passes.specs.declared.strict.Strict.{Strict}

-- These are the lines of a run's end and summary.
abbrev pub IsTail : List ℕ → Type 0
IsTail tail = (notes : List Note) × IsText run_begins (text_of notes) notes × (tail ≡ tail_of notes)

-- A note before these, where it has no date
abbrev pub kept : Note → List Note → List Note
kept (note.StopOverrun date agent) notes = notes
kept (note.StopTrap date agent kind) notes = notes
kept (note.Value date variable value) notes = notes
kept (note.Message date stream value) notes = notes
kept other notes = other ∷ notes

-- The notes without a date: those of a run's end and summary
abbrev pub undated : List Note → List Note
undated [] = []
undated (note ∷ notes) = kept note (undated notes)

-- These notes have an end and a summary that say what those of each run say whose end and summary have these lines.
abbrev pub EndAs : List Note → List ℕ → Type 0
EndAs summary tail = (notes : List Note) → IsText run_begins (text_of notes) notes → tail ≡ tail_of notes
    → map says (undated summary) ≡ map says (undated notes)

-- These are the names that the summary of each run lists whose end and summary have these lines.
abbrev pub AreNamesOf : Listed → List ℕ → Type 0
AreNamesOf listed tail = (notes : List Note) → IsText run_begins (text_of notes) notes → tail ≡ tail_of notes
    → (listed.agents ≡ agents_in notes) × (listed.variables ≡ variables_in notes) × (listed.streams ≡ streams_in notes)

-- The place of the first of these notes with a name that isn't among those listed
abbrev pub first_other : Listed → List Note → Option ℕ
first_other listed notes = position (λ note. not (is_among listed note)) notes

-- The number of the first such note, with one more note of this number
abbrev pub with_next : Option ℕ → Bool → ℕ → Option ℕ
with_next (Some first) among number = Some first
with_next None true number = None
with_next None false number = Some number

-- What a note is for the search of such a note
abbrev pub Looks : NameCheck → Note → List ℕ → NameCheck → Type 0
Looks old note piece new =
    (piece ≡ []) × (new.listed.now ≡ old.listed.now) × (new.notes ≡ min (old.notes + 1) (2 ^ 64 - 1))
    × (new.unlisted ≡ with_next old.unlisted (is_among old.listed.now note) new.notes)

-- Of a note whose name is listed another tells
abbrev pub TellsListed : {T : Type 0} → (T → Note → List ℕ → T → Type 0) → Strict T → Note → List ℕ → Strict T → Type 0
TellsListed tells old note piece new = (is_among old.listed note ≡ true) × (new.listed ≡ old.listed) × tells old.inner note piece new.inner

-- Of one whose name isn't nothing is told, nor of one of which the other tells nothing.
abbrev pub RefusesOther : {T : Type 0} → (T → Note → Type 0) → Strict T → Note → Type 0
RefusesOther refuses old note = (is_among old.listed note ≡ false) ⊎ refuses old.inner note
