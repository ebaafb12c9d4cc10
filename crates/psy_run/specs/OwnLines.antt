-- The lines of one agent: those of its stops, and of the values that its variables publish.
use Rattle.std.specs.Prelude.{ℕ, ◌+◌, ◌==◌, Bool, false, List, map, filter, Option, Some, None}
use Rattle.std.specs.List.{flat_map, range_with_len}
use Rattle.psy_history.specs.Actions.{System, variable_of}
use Rattle.psy_history.specs.Lines.{Event, Stop, Publish, Show, events}
use Rattle.psy_kernel.specs.Texts.{event_line, text_of}

-- The agent is the owner.
abbrev pub is_owner : ℕ → Option ℕ → Bool
is_owner agent None = false
is_owner agent (Some owner) = owner == agent

-- The event is the agent's: its stop, or a value of a variable that it owns
abbrev pub is_own : System → ℕ → Event → Bool
is_own s agent (Stop who trap) = who == agent
is_own s agent (Publish variable value) = is_owner agent (variable_of s variable).owner
is_own s agent (Show stream value) = false

-- The agent's lines of a date
abbrev pub own_lines : System → ℕ → ℕ → List (List ℕ)
own_lines s agent date = map (event_line s date) (filter (is_own s agent) (events s date))

-- The agent's lines up to a date, as they are written
abbrev pub own_text : System → ℕ → ℕ → List ℕ
own_text s agent until = flat_map (λ date. text_of (own_lines s agent date)) (range_with_len 0 (until + 1))
