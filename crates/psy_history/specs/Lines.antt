-- The dated lines of a history: what a run tells of each date.
use Rattle.std.specs.Prelude.{ℕ, ◌+◌, ◌==◌, Bool, if◌then◌else◌, List, [], ◌∷◌, ◌++◌, map, filter, length, Option, Some, None, ℤ}
use Rattle.std.specs.List.{flat_map, range_with_len}
use Rattle.psy_arith.specs.declared.operators.Trap.{Trap}
use Rattle.psy_base.specs.declared.message.Message.{Message}
use Rattle.psy_clock.specs.declared.clock.Clock.{Clock}
use Rattle.psy_clock.specs.Dates.{from_date}
use Rattle.psy_history.specs.Actions.{Action, History, System, Verdict, Done, Trapped, Overran, publishing, variable_of}
use Rattle.psy_history.specs.History.{history}
use Rattle.psy_history.specs.Visible.{messages, published}

-- What is told of a date: an agent stopped, by a trap or by an overrun; a variable published a value; a message became visible.
pub data Event : Type 0 where
  Stop : (agent : ℕ) (trap : Option Trap) → Event
  Publish : (variable : ℕ) (value : ℤ) → Event
  Show : (stream : ℕ) (value : ℤ) → Event

-- The stop of an action that ended so: none where it reached a point
abbrev pub stops_by : ℕ → Verdict → List Event
stops_by agent (Done point end) = []
stops_by agent (Trapped kind) = Stop agent (Some kind) ∷ []
stops_by agent Overran = Stop agent None ∷ []

-- The stops of an agent's actions whose deadline is this date
abbrev pub stops_of : ℕ → List Action → List Event
stops_of date actions = flat_map (λ (r : Action). if r.deadline == date then stops_by r.agent r.verdict else []) actions

-- The time is a date of the clock.
abbrev pub is_date : Clock → ℕ → Bool
is_date clock time = from_date clock time 0 == time

-- What a variable publishes at a date, by its owner: inputs aren't told
abbrev pub publications_by : System → History → ℕ → ℕ → Option ℕ → List Event
publications_by s h date variable None = []
publications_by s h date variable (Some owner) = if is_date (publishing s variable) date then Publish variable (published s h variable date) ∷ [] else []

-- What a variable publishes at a date
abbrev pub publications : System → History → ℕ → ℕ → List Event
publications s h date variable = publications_by s h date variable (variable_of s variable).owner

-- The messages of a stream that become visible at a date
abbrev pub shows : System → History → ℕ → ℕ → List Event
shows s h date stream = map (λ (m : Message). Show stream m.value) (filter (λ (m : Message). m.visible == date) (messages s h stream))

-- What is told of a date, where this is the history up to it: stops, publications, messages
abbrev pub events_in : System → History → ℕ → List Event
events_in s h date =
    flat_map (λ agent. stops_of date (h agent)) (range_with_len 0 (length s.unit.agents))
    ++ (flat_map (publications s h date) (range_with_len 0 (length s.unit.variables))
    ++ flat_map (shows s h date) (range_with_len 0 (length s.unit.streams)))

-- What is told of a date
abbrev pub events : System → ℕ → List Event
events s date = events_in s (history s (date + 1)) date
