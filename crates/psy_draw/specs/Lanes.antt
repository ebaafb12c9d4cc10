-- Which lanes a picture has, and which values.
use Rattle.std.specs.Prelude.{◌++◌, ◌&&◌, ◌||◌, ◌==◌, ℕ, Bool, false, List, [], ◌∷◌, bytes_eq, cond, length, nat_le, nat_lt}
use Rattle.std.specs.List.{flat_map, list_any}
use Rattle.psy_draw.specs.Columns.{Dated, dated}
use Rattle.psy_log.specs.declared.note.Note.{Note}
use Rattle.psy_log.specs.declared.note.Note.TheVariants as note

-- The name is among those that were asked for, or none were.
abbrev pub is_asked : List (List ℕ) → List ℕ → Bool
is_asked names name = (length names == 0) || list_any (bytes_eq name) names

-- The value of a variable in a note of a date up to this one
abbrev pub values_before : ℕ → List ℕ → Note → List Dated
values_before from name (note.Value date variable value) = cond (bytes_eq variable.now name && nat_le date from) (dated date value ∷ []) []
values_before from name _ = []

-- The value of a variable in a note of a date behind the first of these two, up to the second
abbrev pub values_within : ℕ → ℕ → List ℕ → Note → List Dated
values_within from to name (note.Value date variable value) = cond (bytes_eq variable.now name && nat_lt from date && nat_le date to) (dated date value ∷ []) []
values_within from to name _ = []

-- The value of a message of a stream in a note of a date from the first of these two up to the second
abbrev pub messages_within : ℕ → ℕ → List ℕ → Note → List Dated
messages_within from to name (note.Message date stream value) = cond (bytes_eq stream.now name && nat_le from date && nat_le date to) (dated date value ∷ []) []
messages_within from to name _ = []

-- The last of these values alone
abbrev pub last_alone : List Dated → List Dated
last_alone [] = []
last_alone (v ∷ []) = v ∷ []
last_alone (v ∷ w ∷ values) = last_alone (w ∷ values)

-- The values of a variable in a window: the one that it has at the first date, and those behind it
abbrev pub held_values : ℕ → ℕ → List ℕ → List Note → List Dated
held_values from to name notes = last_alone (flat_map (values_before from name) notes) ++ flat_map (values_within from to name) notes

-- The messages of a stream in a window
abbrev pub message_values : ℕ → ℕ → List ℕ → List Note → List Dated
message_values from to name notes = flat_map (messages_within from to name) notes

-- The note may tell a lane of a name that was asked for: it is a stop, or a line of the summary for a variable or a stream.
abbrev pub may_have_lane : List (List ℕ) → Note → Bool
may_have_lane names (note.StopOverrun date agent) = is_asked names agent.now
may_have_lane names (note.StopTrap date agent kind) = is_asked names agent.now
may_have_lane names (note.VariableEnd variable size reach) = is_asked names variable.now
may_have_lane names (note.StreamEnd stream size held) = is_asked names stream.now
may_have_lane names _ = false
