-- Texts that are lines of notes, and where a text stops being one.
use Rattle.std.specs.Prelude.{◌≡◌, ◌≢◌, ℕ, ◌+◌, IsTrue, IsFalse, List, [], ◌∷◌, ◌++◌, length, flat_map, Some, ◌⊎◌}
use Rattle.psy_log.specs.declared.note.Note.{Note}
use Rattle.psy_log.specs.Forms.{line_of}
use Rattle.psy_notes.specs.declared.stand.Stand.{Stand}
use Rattle.psy_notes.specs.Notes.{IsTold}
use Rattle.psy_notes.specs.Stands.{next_stand, may_end}

-- The note can be told, and its line leads from one stand to the other
abbrev pub Steps : Stand → Note → Stand → Type 0
Steps from note to = IsTold note × (next_stand from note ≡ Some to)

-- The lines of the notes lead, one behind the other, from one stand to the other
abbrev pub Leads : Stand → List Note → Stand → Type 0
Leads from [] to = from ≡ to
Leads from (note ∷ notes) to = (between : Stand) × Steps from note between × Leads between notes to

-- The bytes of the notes' lines
abbrev pub text_of : List Note → List ℕ
text_of notes = flat_map line_of notes

-- The text is the lines of these notes, which may follow one another from this stand on, and it may end there.
pub record IsText (first : Stand) (text : List ℕ) (notes : List Note) : Type 0 where
  pub last : Stand
  pub leads : Leads first notes last
  pub ends : IsTrue (may_end last)
  pub whole : text ≡ text_of notes

-- Nothing that stands here goes on from this stand: the text ends where it may not, or no note that may follow has its line there.
abbrev pub CannotGoOn : Stand → List ℕ → Type 0
CannotGoOn stand rest =
    ((rest ≡ []) × IsFalse (may_end stand))
    ⊎ ((rest ≢ []) × ((note : Note) (to : Stand) (more : List ℕ) → Steps stand note to → rest ≢ line_of note ++ more))

-- The line of this number, counted from 1, is the first that isn't in form: lines that may stand there come before it, and behind them nothing goes on.
pub record BreaksAt (first : Stand) (text : List ℕ) (line : ℕ) : Type 0 where
  pub notes : List Note
  pub rest : List ℕ
  pub last : Stand
  pub leads : Leads first notes last
  pub cut : text ≡ text_of notes ++ rest
  pub stuck : CannotGoOn last rest
  pub number : line ≡ length notes + 1
