-- What the tables in memory stand for.
use Rattle.std.specs.Prelude.{◌≡◌, ℕ, List, ◌++◌, codes, decimal}
use Rattle.psy_log.specs.declared.note.Note.{Note}
use Rattle.psy_passes.specs.declared.listed.Listed.{Listed}
use Rattle.psy_table.specs.declared.table.Table.{Table}
use Rattle.psy_table.specs.Cells.{messages_text, stop_text, value_text}
use Rattle.psy_table.specs.CellsState.{cells_of}
use Rattle.psy_table.specs.Fields.{fields}
use Rattle.psy_table.specs.Rows.{Columns}

-- The columns of the names that were found
abbrev pub columns_in : Listed → Columns
columns_in listed = record { variables = listed.variables; streams = listed.streams; agents = listed.agents }

-- A table stands for what was told, newest first, and what of it at the present date.
pub record TableStands (columns : Columns) (told today : List Note) (table : Table) : Type 0 where
  pub variables : table.variables ≡ cells_of (value_text told) columns.variables
  pub streams : table.streams ≡ cells_of (messages_text today) columns.streams
  pub agents : table.agents ≡ cells_of (stop_text today) columns.agents

-- The row of a date, by what stands in a table
abbrev pub row_in : Table → ℕ → List ℕ
row_in table date = decimal date ++ fields table.variables.texts ++ fields table.streams.texts ++ fields table.agents.texts ++ codes "\r\n"
