-- The name in a note, and the tables of the summary's names.
use Rattle.std.specs.Prelude.{Bool, true, bytes_eq}
use Rattle.std.specs.List.{list_any}
use Rattle.psy_log.specs.declared.note.Note.{Note}
use Rattle.psy_log.specs.declared.note.Note.TheVariants as note
use Rattle.psy_passes.specs.declared.listed.Listed.{Listed}

-- The name in a dated note, where this is one, is among those of its kind.
abbrev pub is_among : Listed → Note → Bool
is_among listed (note.StopOverrun date agent) = list_any (bytes_eq agent.now) listed.agents
is_among listed (note.StopTrap date agent kind) = list_any (bytes_eq agent.now) listed.agents
is_among listed (note.Value date variable value) = list_any (bytes_eq variable.now) listed.variables
is_among listed (note.Message date stream value) = list_any (bytes_eq stream.now) listed.streams
is_among listed _ = true
