-- The names that a summary lists, and the first note with another.
use Rattle.std.specs.Prelude.{◌+◌, ℕ, Bool, true, List, [], Option, bytes_eq, fold, not, option_map}
use Rattle.std.specs.List.{list_any, position}
use Rattle.psy_log.specs.declared.note.Note.{Note}
use Rattle.psy_log.specs.declared.note.Note.TheVariants as note
use Rattle.psy_passes.specs.Names.{with_name}

-- The names of agents, and that in a note, where it is an agent's line of a summary
abbrev pub added_agent : List (List ℕ) → Note → List (List ℕ)
added_agent names (note.AgentEnd agent count slack) = with_name names agent.now
added_agent names _ = names

-- The same for variables
abbrev pub added_variable : List (List ℕ) → Note → List (List ℕ)
added_variable names (note.VariableEnd variable size reach) = with_name names variable.now
added_variable names _ = names

-- The same for streams
abbrev pub added_stream : List (List ℕ) → Note → List (List ℕ)
added_stream names (note.StreamEnd stream size held) = with_name names stream.now
added_stream names _ = names

-- The agents that the summary among these notes lists, in its order, each once
abbrev pub agents_in : List Note → List (List ℕ)
agents_in notes = fold added_agent [] notes

-- The variables
abbrev pub variables_in : List Note → List (List ℕ)
variables_in notes = fold added_variable [] notes

-- The streams
abbrev pub streams_in : List Note → List (List ℕ)
streams_in notes = fold added_stream [] notes

-- The summary lists the name in a dated note, where this is one.
abbrev pub is_listed : List Note → Note → Bool
is_listed notes (note.StopOverrun date agent) = list_any (bytes_eq agent.now) (agents_in notes)
is_listed notes (note.StopTrap date agent kind) = list_any (bytes_eq agent.now) (agents_in notes)
is_listed notes (note.Value date variable value) = list_any (bytes_eq variable.now) (variables_in notes)
is_listed notes (note.Message date stream value) = list_any (bytes_eq stream.now) (streams_in notes)
is_listed notes _ = true

-- The number, counted from 1, of the first note whose name the summary doesn't list
abbrev pub first_unlisted : List Note → Option ℕ
first_unlisted notes = option_map (λ k. k + 1) (position (λ note. not (is_listed notes note)) notes)
