-- The first line in which two logs differ.
use Rattle.std.specs.Prelude.{◌≡◌, ◌≢◌, ℕ, ◌+◌, ◌≤◌, List, [], ◌∷◌, ◌++◌, Option, None, Some, codes, decimal, length, map, slice_get, take}
use Rattle.psy_base.specs.declared.limits.TheConstants.{WORD_BYTES}
use Rattle.psy_log.specs.declared.note.Note.{Note}
use Rattle.psy_log.specs.Forms.{line_of, name_of}
use Rattle.psy_notes.specs.Stands.{run_begins}
use Rattle.psy_notes.specs.Texts.{IsText}

-- The lists agree before a place, and not there: there one has another line, or has ended.
abbrev pub DifferFirst : List (List ℕ) → List (List ℕ) → ℕ → Type 0
DifferFirst first second place = (take place first ≡ take place second) × (slice_get first place ≢ slice_get second place)

-- A line behind a sign; nothing where the log has ended
abbrev pub side : ℕ → Option (List ℕ) → List ℕ
side sign None = []
side sign (Some line) = sign ∷ 32 ∷ line

-- What is told of a difference: the number of the line, counted from 1, and what stands there in the first log and in the second
abbrev pub difference_text : ℕ → Option (List ℕ) → Option (List ℕ) → List ℕ
difference_text place first second = codes "line " ++ decimal (place + 1) ++ codes "\n" ++ side 45 first ++ side 43 second

-- Two texts are logs of runs, and this is told of the first line in which they differ.
pub record Differs (first second text : List ℕ) : Type 0 where
  pub notes : List Note
  pub others : List Note
  pub place : ℕ
  pub are : IsText run_begins first notes × IsText run_begins second others
  pub differ : DifferFirst (map line_of notes) (map line_of others) place
  pub told : text ≡ difference_text place (slice_get (map line_of notes) place) (slice_get (map line_of others) place)

-- A line has room for the name in a note.
abbrev pub Fits : Note → Type 0
Fits note = length (name_of note) ≤ WORD_BYTES
