-- What a picture is drawn of, and the lanes that it has.
use Rattle.std.specs.Prelude.{◌++◌, ℕ, List, map, string_bytes}
use Rattle.std.specs.List.{flat_map}
use Rattle.psy_draw.specs.declared.source.Source.{Source}
use Rattle.psy_draw.specs.declared.stopped.Stopped.{Stopped}
use Rattle.psy_draw.specs.Columns.{is_there, is_there_still}
use Rattle.psy_draw.specs.Gathering.{AreColumns, AreStops, asks_stream, asks_variable}
use Rattle.psy_draw.specs.Knowledge.{Knowledge, knowledge_of}
use Rattle.psy_draw.specs.Lanes.{held_values, message_values}
use Rattle.psy_draw.specs.Listing.{Lists}
use Rattle.psy_draw.specs.Pictures.{IsFile}
use Rattle.psy_draw.specs.Planning.{Shown, input_name, input_names, lanes_of}
use Rattle.psy_draw.specs.Planning.{message_lane, stop_lanes, stream_lanes, value_lane, variable_lanes}
use Rattle.psy_draw.specs.Sayings.{HasSummary}
use Rattle.psy_draw.specs.Scales.{place_by}
use Rattle.psy_draw.specs.Silences.{Silent}
use Rattle.psy_log.specs.declared.note.Note.{Note}

-- The names that were asked for
abbrev pub names_in : Source → List (List ℕ)
names_in source = map string_bytes source.names.now

-- What the program tells
abbrev pub known_in : Source → Knowledge
known_in source = knowledge_of source.known

-- From when on variables are silent
abbrev pub silences_in : Source → List Silent
silences_in source = (known_in source).silences

-- The places of dates
abbrev pub place_in : Source → ℕ → ℕ
place_in source = place_by source.scale.now

-- The columns stand for the values of a run with these notes.
pub record Draws (source : Source) (notes : List Note) : Type 0 where
  pub variables : AreColumns (place_in source) (is_there_still (place_in source))
      (λ name. held_values source.scale.now.from source.scale.now.to name notes) source.variables.now
  pub streams : AreColumns (place_in source) (is_there (place_in source))
      (λ name. message_values source.scale.now.from source.scale.now.to name notes) source.streams.now

-- There are columns for each name in the summary that was asked for.
pub record HasNames (source : Source) : Type 0 where
  pub variables : Lists (asks_variable (names_in source)) source.summary.now source.variables.now.names
  pub streams : Lists (asks_stream (names_in source)) source.summary.now source.streams.now.names

-- The lanes of a run with these notes
abbrev pub lanes_in : Source → List Note → List Shown
lanes_in source notes = lanes_of source.scale.now.from source.scale.now.to (known_in source) (names_in source) notes

-- The lane that a note tells of a stopped agent
abbrev pub stops_of : Source → Note → List Shown
stops_of source note = stop_lanes source.scale.now.to (known_in source).homes (names_in source) note

-- The lane that a note tells of a variable
abbrev pub variables_of : Source → List Note → Note → List Shown
variables_of source notes note = variable_lanes source.scale.now.from source.scale.now.to (silences_in source) (names_in source) notes note

-- The lane that a note tells of a stream
abbrev pub streams_of : Source → List Note → Note → List Shown
streams_of source notes note = stream_lanes source.scale.now.from source.scale.now.to (names_in source) notes note

-- The name that a note tells of a variable without a value
abbrev pub inputs_of : Source → List Note → Note → List (List ℕ)
inputs_of source notes note = input_names source.scale.now.from source.scale.now.to (names_in source) notes note

-- The lanes by the summary, behind those of stops
abbrev pub planned : Source → List Shown → List Note → List Shown
planned source stops notes =
    stops ++ (flat_map (variables_of source notes) source.summary.now ++ flat_map (streams_of source notes) source.summary.now)

-- All names of variables without a value
abbrev pub inputs_in : Source → List Note → List (List ℕ)
inputs_in source notes = flat_map (inputs_of source notes) source.summary.now

-- The name of a variable, where it has no value
abbrev pub input_in : Source → List Note → List ℕ → List (List ℕ)
input_in source notes name = input_name (names_in source) name (held_values source.scale.now.from source.scale.now.to name notes)

-- The lane of a variable
abbrev pub values_in : Source → List Note → List ℕ → List Shown
values_in source notes name = value_lane (silences_in source) (names_in source) name (held_values source.scale.now.from source.scale.now.to name notes)

-- The lane of a stream
abbrev pub messages_in : Source → List Note → List ℕ → List Shown
messages_in source notes name = message_lane (names_in source) name (message_values source.scale.now.from source.scale.now.to name notes)

-- The lanes of stops and the columns are those of a run with these notes, whose summary this is.
pub record IsOf (source : Source) (stopped : Stopped) (notes : List Note) : Type 0 where
  pub draws : Draws source notes
  pub stops : AreStops (place_in source) (flat_map (stops_of source) notes) stopped.lanes.items stopped.full
  pub summary : HasSummary notes source.summary.now

-- A file is that of the picture, or says that it would be too large.
abbrev pub IsFileBy : List ℕ → Source → List Note → List ℕ → Type 0
IsFileBy name source notes svg =
    IsFile name source.scale.now.from source.scale.now.to source.scale.now.grain (known_in source) (names_in source) notes svg
