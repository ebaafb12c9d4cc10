-- The note that a line alone says.
use Rattle.std.specs.Prelude.{◌≡◌, ℕ, List, Contains}
use Rattle.psy_log.specs.declared.note.Note.{Note}
use Rattle.psy_log.specs.Forms.{line_of, says}
use Rattle.psy_notes.specs.declared.forms.TheConstants.{LINES}
use Rattle.psy_notes.specs.Notes.{IsTold}

-- The line, with its line feed, is that of this note, which has one of the forms by which a line alone is read.
pub record IsLineOf (line : List ℕ) (note : Note) : Type 0 where
  pub told : IsTold note
  pub form : Contains LINES (says note).0
  pub written : line ≡ line_of note
