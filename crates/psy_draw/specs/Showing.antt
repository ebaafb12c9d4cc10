-- What a picture shows of a summary.
use Rattle.std.specs.Prelude.{ℕ, ◌+◌, List, [], ◌∷◌, ◌++◌, Some, decimal}
use Rattle.std.specs.List.{flat_map}
use Rattle.psy_log.specs.declared.note.Note.{Note}
use Rattle.psy_log.specs.declared.note.Note.TheVariants as note
use Rattle.psy_log.specs.Forms.{number_or_dash}
use Rattle.psy_draw.specs.declared.row.TheConstants.{ROW}
use Rattle.psy_draw.specs.Rows.{Entry}
use Rattle.psy_draw.specs.declared.table.TheConstants.{ROW_HEIGHT}
use Rattle.psy_page.specs.Spelling.{escaped}
use Rattle.psy_page.specs.Templates.{fill}

-- A row at a height, with the right ends of its numbers
abbrev pub row_text : ℕ → ℕ → ℕ → Entry → List ℕ
row_text y first second row =
    fill ROW.now (decimal y ∷ flat_map escaped row.name ∷ decimal first ∷ decimal row.first ∷ decimal second ∷ number_or_dash row.second ∷ [])

-- Rows one below the other, each 17 pixels below the one before it, the first of them that far below a height
abbrev pub rows_text : ℕ → ℕ → ℕ → List Entry → List ℕ
rows_text y first second [] = []
rows_text y first second (row ∷ rows) = row_text (y + ROW_HEIGHT) first second row ++ rows_text (y + ROW_HEIGHT) first second rows

-- The row of an agent in the summary: its actions, and the least slack among them
abbrev pub agent_rows : Note → List Entry
agent_rows (note.AgentEnd agent count slack) = record { name = agent.now; first = count; second = slack } ∷ []
agent_rows _ = []

-- The row of a variable: its places, and how far a look went back
abbrev pub variable_rows : Note → List Entry
variable_rows (note.VariableEnd variable size reach) = record { name = variable.now; first = size; second = reach } ∷ []
variable_rows _ = []

-- The row of a stream: its places, and the most messages that it held
abbrev pub stream_rows : Note → List Entry
stream_rows (note.StreamEnd stream size held) = record { name = stream.now; first = size; second = Some held } ∷ []
stream_rows _ = []
