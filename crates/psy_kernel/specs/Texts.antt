-- The text of a run: its lines date by date, and the summary.
use Rattle.std.specs.Prelude.{ℕ, ◌+◌, ◌*◌, List, ◌∷◌, ◌++◌, map, length, get_or, Option, Some, None}
use Rattle.std.specs.List.{flat_map, range_with_len}
use Rattle.psy_log.specs.Forms.{stop_overrun_line, stop_trap_line, value_line, message_line, end_line, agent_line, variable_line, stream_line}
use Rattle.psy_history.specs.Actions.{System, stream_of, variable_of}
use Rattle.psy_tree.specs.Parts.{agent_at}
use Rattle.psy_history.specs.History.{history}
use Rattle.psy_history.specs.Lines.{Event, Stop, Publish, Show, events}
use Rattle.psy_history.specs.Schedule.{Turn}
use Rattle.psy_history.specs.Summary.{dates_from, due_by, due_count, least_slack, most_held, reach}
use Rattle.psy_history.specs.Scheduled.{turns_by}
use Rattle.psy_base.specs.declared.sizes.Sizes.{Sizes}

-- The line that tells an event of a date
abbrev pub event_line : System → ℕ → Event → List ℕ
event_line s date (Stop agent None) = stop_overrun_line date (agent_at s.unit agent).name
event_line s date (Stop agent (Some kind)) = stop_trap_line date (agent_at s.unit agent).name kind
event_line s date (Publish variable value) = value_line date (variable_of s variable).name value
event_line s date (Show stream value) = message_line date (stream_of s stream).name value

-- The lines of a date
abbrev pub lines_of : System → ℕ → List (List ℕ)
lines_of s date = map (event_line s date) (events s date)

-- An agent's line: how many of its actions are due by the last date, and the least slack among them, with what its opening has
abbrev pub agent_end : System → (ℕ → List (Option Turn)) → ℕ → ℕ → List ℕ
agent_end s turns until agent =
    let due = due_by until (history s (until + 1) agent) in
    agent_line (agent_at s.unit agent).name (due_count s agent due) (least_slack s (turns agent) agent due)

-- A variable's line: the size of its ring, and how far back it was reached for
abbrev pub variable_end : System → (ℕ → List (Option Turn)) → Sizes → ℕ → ℕ → List ℕ
variable_end s turns sizes until variable = variable_line (variable_of s variable).name (get_or sizes.rings variable 0)
    (reach s turns (history s (until + 1)) variable)

-- A stream's line: the size of its queue, and the most messages that it held
abbrev pub stream_end : System → Sizes → ℕ → ℕ → List ℕ
stream_end s sizes until stream = stream_line (stream_of s stream).name (get_or sizes.queues stream 0) (most_held s until stream)

-- The lines of the summary, where by agent the cycles of its processor up to the last date went to these turns
abbrev pub summary_by : System → (ℕ → List (Option Turn)) → Sizes → ℕ → List (List ℕ)
summary_by s turns sizes until =
    end_line until
    ∷ (map (agent_end s turns until) (range_with_len 0 (length s.unit.agents))
    ++ (map (variable_end s turns sizes until) (range_with_len 0 (length s.unit.variables))
    ++ map (stream_end s sizes until) (range_with_len 0 (length s.unit.streams))))

-- The lines of the summary
abbrev pub summary_of : System → (ℕ → List ℕ) → Sizes → ℕ → List (List ℕ)
summary_of s order sizes until = summary_by s (turns_by s order (until * s.unit.quantum)) sizes until

-- Lines one behind the other
abbrev pub text_of : List (List ℕ) → List ℕ
text_of = flat_map (λ line. line)

-- The text of the dates below this one: 0, 1 and so on, behind those that were done before
abbrev pub log_of : System → ℕ → List ℕ
log_of s dates = flat_map (λ date. text_of (lines_of s date)) (dates_from s.opening.dates dates)

-- The whole text of a run up to a date
abbrev pub run_text : System → (ℕ → List ℕ) → Sizes → ℕ → List ℕ
run_text s order sizes until = log_of s (until + 1) ++ text_of (summary_of s order sizes until)
