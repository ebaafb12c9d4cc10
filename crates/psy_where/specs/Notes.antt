-- The note that a line says.
use Rattle.std.specs.Prelude.{ℕ, List, ◌++◌, codes}
use Rattle.psy_log.specs.declared.note.Note.{Note}
use Rattle.psy_notes.specs.Lines.{IsLineOf}

-- With its line feed, the line is that of this note.
abbrev pub IsNoteOf : List ℕ → Note → Type 0
IsNoteOf line note = IsLineOf (line ++ codes "\n") note
