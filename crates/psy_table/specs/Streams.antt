-- The table of a run whose notes come one by one.
use Rattle.std.specs.Prelude.{◌≡◌, ◌⊎◌, ℕ, List, [], ◌∷◌, ◌++◌, Option, None, Some}
use Rattle.psy_door.specs.Files.{Files}
use Rattle.psy_log.specs.declared.note.Note.{Note}
use Rattle.psy_passes.specs.Outcomes.{Begins}
use Rattle.psy_table.specs.declared.rows.RowTeller.{RowTeller}
use Rattle.psy_table.specs.declared.table.Table.{Table}
use Rattle.psy_table.specs.Rows.{Columns, columns_of, date_of, heading, last_of, rows, today_of}
use Rattle.psy_table.specs.Stands.{TableStands, row_in}

-- The date of the notes so far that ends before this note, where the last of them has that date
abbrev pub ended_before : Option ℕ → Note → Option ℕ
ended_before latest note = last_of latest (note ∷ [])

-- The row of a date that has ended
abbrev pub ended_row : Table → Option ℕ → List ℕ
ended_row table None = []
ended_row table (Some date) = row_in table date

-- Of a note is told the row of the date that ends before it; and the table takes in the note.
pub record TellsRow (old : RowTeller) (note : Note) (piece : List ℕ) (new : RowTeller) : Type 0 where
  pub row : piece ≡ ended_row old.table (ended_before old.latest note)
  pub stands : (columns : Columns) (told today : List Note) → TableStands columns told today old.table
      → TableStands columns (note ∷ told) (note ∷ today_of (ended_before old.latest note) today) new.table
  pub latest : new.latest ≡ date_of note

-- The table of notes, with the columns of those names that a summary among others lists
abbrev pub csv_under : List Note → List Note → List ℕ
csv_under before notes = heading (columns_of before) ++ rows (columns_of before) [] [] notes

-- A text of which a front was written: nothing, or the front of a table
abbrev pub TableFront : Option Files → List ℕ → List ℕ → Type 0
TableFront files name text = (text ≡ []) ⊎ Begins files name csv_under text
