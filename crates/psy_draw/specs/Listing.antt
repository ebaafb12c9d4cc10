-- The names that a summary lists, and the first note with another.
use Rattle.std.specs.Prelude.{◌≡◌, ◌+◌, ◌||◌, ℕ, Bool, true, false, List, Option, bytes_eq, not, option_map, position}
use Rattle.std.specs.List.{list_any}
use Rattle.psy_log.specs.declared.note.Note.{Note}
use Rattle.psy_log.specs.declared.note.Note.TheVariants as note

-- The note is the summary's line of this agent.
abbrev pub ends_agent : List ℕ → Note → Bool
ends_agent name (note.AgentEnd agent count slack) = bytes_eq name agent.now
ends_agent name _ = false

-- The note is the summary's line of this variable.
abbrev pub ends_variable : List ℕ → Note → Bool
ends_variable name (note.VariableEnd variable size reach) = bytes_eq name variable.now
ends_variable name _ = false

-- The note is the summary's line of this stream.
abbrev pub ends_stream : List ℕ → Note → Bool
ends_stream name (note.StreamEnd stream size held) = bytes_eq name stream.now
ends_stream name _ = false

-- The summary lists the name in a dated note, where this is one.
abbrev pub is_listed : List Note → Note → Bool
is_listed notes (note.StopOverrun date agent) = list_any (ends_agent agent.now) notes
is_listed notes (note.StopTrap date agent kind) = list_any (ends_agent agent.now) notes
is_listed notes (note.Value date variable value) = list_any (ends_variable variable.now) notes
is_listed notes (note.Message date stream value) = list_any (ends_stream stream.now) notes
is_listed notes _ = true

-- The number, counted from 1, of the first note that doesn't pass
abbrev pub first_failing : (Note → Bool) → List Note → Option ℕ
first_failing passes notes = option_map (λ k. k + 1) (position (λ note. not (passes note)) notes)

-- The number of the first note whose name the summary doesn't list
abbrev pub first_unlisted : List Note → Option ℕ
first_unlisted notes = first_failing (is_listed notes) notes

-- The place, counted from 0, of the first name that doesn't pass
abbrev pub first_outside : (List ℕ → Bool) → List (List ℕ) → Option ℕ
first_outside passes names = position (λ name. not (passes name)) names

-- The summary lists the name, as an agent, a variable or a stream.
abbrev pub is_named : List Note → List ℕ → Bool
is_named notes name = list_any (ends_agent name) notes || list_any (ends_variable name) notes || list_any (ends_stream name) notes

-- The place of the first of these names that the summary doesn't list
abbrev pub first_unasked : List Note → List (List ℕ) → Option ℕ
first_unasked notes names = first_outside (is_named notes) names

-- These names are those that notes have, as `ends` tells them.
abbrev pub Lists : (List ℕ → Note → Bool) → List Note → List (List ℕ) → Type 0
Lists ends notes names = (name : List ℕ) → list_any (bytes_eq name) names ≡ list_any (ends name) notes

-- To these names a note adds the one that it has, as `ends` tells it.
abbrev pub Adds : (List ℕ → Note → Bool) → Note → List (List ℕ) → List (List ℕ) → Type 0
Adds ends note old new = (name : List ℕ) → list_any (bytes_eq name) new ≡ (list_any (bytes_eq name) old || ends name note)
