-- What each loop of `tables::Tables::of` keeps.
use Rattle.std.proofs.Common.{◌≡◌, take}
use Rattle.std.specs.List.{flat_map}
use Rattle.psy_draw.specs.Showing.{agent_rows, stream_rows, variable_rows}
use Rattle.psy_draw.proofs.tables.Tables.of.Given as goal

-- The rows so far
abbrev pub invariant-loop-note : goal.invariant-loop-note
invariant-loop-note l = record {
  agents : l.tables.agents.rows.items ≡ flat_map agent_rows (take l.note-index l.notes);
  variables : l.tables.variables.rows.items ≡ flat_map variable_rows (take l.note-index l.notes);
  streams : l.tables.streams.rows.items ≡ flat_map stream_rows (take l.note-index l.notes);
}
