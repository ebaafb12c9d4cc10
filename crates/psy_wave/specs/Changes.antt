-- What notes change, and when.
use Rattle.std.specs.Prelude.{ℕ, ℤ, ◌==◌, List, [], ◌∷◌, ◌++◌, Option, None, Some, bytes_eq, codes, decimal, if◌then◌else◌}
use Rattle.std.specs.List.{position}
use Rattle.psy_log.specs.declared.note.Note.{Note}
use Rattle.psy_log.specs.declared.note.Note.TheVariants as note
use Rattle.psy_passes.specs.Listing.{agents_in, streams_in, variables_in}
use Rattle.psy_wave.specs.Codes.{valued, vector}
use Rattle.psy_wave.specs.Heads.{head}

-- The variable at a place has a new value.
abbrev pub value_change : Option ℕ → ℤ → List ℕ
value_change None value = []
value_change (Some place) value = vector value 118 place

-- A message of the stream at a place becomes visible: its event happens, and it has that value.
abbrev pub message : Option ℕ → ℤ → List ℕ
message None value = []
message (Some place) value = valued (codes "1") 101 place ++ vector value 109 place

-- The agent at a place is stopped.
abbrev pub raised : Option ℕ → List ℕ
raised None = []
raised (Some place) = valued (codes "1") 115 place

-- The place of a name
abbrev pub place_of : List ℕ → List (List ℕ) → Option ℕ
place_of name names = position (bytes_eq name) names

-- What a note changes, in a dump of these variables, streams and agents
abbrev pub change : List (List ℕ) → List (List ℕ) → List (List ℕ) → Note → List ℕ
change variables streams agents (note.Value date variable value) = value_change (place_of variable.now variables) value
change variables streams agents (note.Message date stream value) = message (place_of stream.now streams) value
change variables streams agents (note.StopOverrun date agent) = raised (place_of agent.now agents)
change variables streams agents (note.StopTrap date agent kind) = raised (place_of agent.now agents)
change variables streams agents _ = []

-- The date of a dated note, or of the end
abbrev pub time_of : Note → Option ℕ
time_of (note.StopOverrun date agent) = Some date
time_of (note.StopTrap date agent kind) = Some date
time_of (note.Value date variable value) = Some date
time_of (note.Message date stream value) = Some date
time_of (note.End until) = Some until
time_of _ = None

-- A time is written where it isn't that which was written last.
abbrev pub stamp : ℕ → Option ℕ → List ℕ
stamp last None = []
stamp last (Some time) = if time == last then [] else codes "#" ++ decimal time ++ codes "\n"

-- The time that was written last
abbrev pub later : ℕ → Option ℕ → ℕ
later last None = last
later last (Some time) = time

-- What notes change, behind a time that was written
abbrev pub changes : List (List ℕ) → List (List ℕ) → List (List ℕ) → ℕ → List Note → List ℕ
changes variables streams agents last [] = []
changes variables streams agents last (note ∷ notes) =
    stamp last (time_of note) ++ change variables streams agents note ++ changes variables streams agents (later last (time_of note)) notes

-- The whole text
abbrev pub vcd_of : List Note → List ℕ
vcd_of notes =
    head (variables_in notes) (streams_in notes) (agents_in notes) ++ changes (variables_in notes) (streams_in notes) (agents_in notes) 0 notes
