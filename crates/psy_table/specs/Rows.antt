-- The table of a run: a row for each date at which something is told.
use Rattle.std.specs.Prelude.{ℕ, ◌==◌, Bool, false, List, [], ◌∷◌, ◌++◌, Option, None, Some, codes, decimal, if◌then◌else◌, map}
use Rattle.psy_log.specs.declared.note.Note.{Note}
use Rattle.psy_log.specs.declared.note.Note.TheVariants as note
use Rattle.psy_passes.specs.Listing.{agents_in, streams_in, variables_in}
use Rattle.psy_table.specs.Cells.{messages_text, stop_text, value_text}
use Rattle.psy_table.specs.Fields.{fields, spelled}

-- The names that have a column: of variables, of streams, and of agents for their stops
pub record Columns : Type 0 where
  pub variables : List (List ℕ)
  pub streams : List (List ℕ)
  pub agents : List (List ℕ)

-- Those that the summary among the notes lists
abbrev pub columns_of : List Note → Columns
columns_of notes = record { variables = variables_in notes; streams = streams_in notes; agents = agents_in notes }

-- The first line: the names of the columns
abbrev pub heading : Columns → List ℕ
heading columns =
    codes "date" ++ fields (map spelled columns.variables) ++ fields (map spelled columns.streams)
    ++ fields (map (λ agent. spelled (codes "stop " ++ agent)) columns.agents) ++ codes "\r\n"

-- The row of a date: the values of variables by all that was told, newest first; messages and stops by what was told at this date
abbrev pub row_text : Columns → ℕ → List Note → List Note → List ℕ
row_text columns date told today =
    decimal date ++ fields (map (value_text told) columns.variables) ++ fields (map (messages_text today) columns.streams)
    ++ fields (map (stop_text today) columns.agents) ++ codes "\r\n"

-- The date of a dated note
abbrev pub date_of : Note → Option ℕ
date_of (note.StopOverrun date agent) = Some date
date_of (note.StopTrap date agent kind) = Some date
date_of (note.Value date variable value) = Some date
date_of (note.Message date stream value) = Some date
date_of _ = None

-- This is it.
abbrev pub is_that : ℕ → Option ℕ → Bool
is_that date None = false
is_that date (Some other) = other == date

-- The first of these notes is of that date.
abbrev pub goes_on : ℕ → List Note → Bool
goes_on date [] = false
goes_on date (note ∷ notes) = is_that date (date_of note)

-- The date of a note, where it is the last of its date
abbrev pub last_of : Option ℕ → List Note → Option ℕ
last_of None notes = None
last_of (Some date) notes = if goes_on date notes then None else Some date

abbrev pub ended_by : Note → List Note → Option ℕ
ended_by note notes = last_of (date_of note) notes

-- The row of a date that has ended; nothing else is written
abbrev pub row_of : Columns → Option ℕ → List Note → List Note → List ℕ
row_of columns None told today = []
row_of columns (Some date) told today = row_text columns date told today

-- What is told at the present date, behind one that may have ended
abbrev pub today_of : Option ℕ → List Note → List Note
today_of None today = today
today_of (Some date) today = []

-- The rows of notes behind those that were told, of which some are of the present date
abbrev pub rows : Columns → List Note → List Note → List Note → List ℕ
rows columns told today [] = []
rows columns told today (note ∷ notes) =
    row_of columns (ended_by note notes) (note ∷ told) (note ∷ today) ++ rows columns (note ∷ told) (today_of (ended_by note notes) (note ∷ today)) notes

-- The whole text
abbrev pub csv_of : List Note → List ℕ
csv_of notes = heading (columns_of notes) ++ rows (columns_of notes) [] [] notes
