-- What the seats, the variables and the figures of a run tell, line by line.
use Rattle.std.specs.Prelude.{◌≡◌, ℕ, ◌+◌, ◌-◌, ◌≤◌, Bool, true, false, nat_lt, ◌==◌, ◌<◌, if◌then◌else◌, List, [], ◌∷◌, ◌++◌, map, filter, length}
use Rattle.std.specs.Prelude.{get_or, slice_get, Option, Some, None, IsSome, ℤ}
use Rattle.std.specs.List.{range_with_len}
use Rattle.psy_arith.specs.declared.operators.Trap.{Trap}
use Rattle.psy_base.specs.declared.message.Message.{Message}
use Rattle.psy_clock.specs.declared.clock.Clock.{Clock}
use Rattle.psy_log.specs.Forms.{agent_line, end_line, stop_overrun_line, stop_trap_line, message_line, stream_line, value_line, variable_line}
use Rattle.psy_tree.specs.declared.unit.Unit.{Unit as Whole}
use Rattle.psy_tree.specs.declared.unit.VarDecl.{VarDecl}
use Rattle.psy_budget.specs.declared.charge.Stall.{Stall}
use Rattle.psy_history.specs.Actions.{Opening, System}
use Rattle.psy_history.specs.Schedule.{Turn}
use Rattle.psy_tree.specs.Parts.{agent_at, variable_at, stream_at}
use Rattle.psy_history.specs.History.{history}
use Rattle.psy_history.specs.Lines.{Event, is_date, publications, shows, stops_of}
use Rattle.psy_dates.specs.declared.plan.Plan.{Plan}
use Rattle.psy_dates.specs.declared.shared.Shared.{Shared}
use Rattle.psy_dates.specs.Plans.{IsSoundFor, opened_of}
use Rattle.psy_dates.specs.Standing.{SharedStands}
use Rattle.psy_dates.specs.declared.seat.Phase.TheVariants as phase
use Rattle.psy_dates.specs.declared.seat.Seat.{Seat}
use Rattle.psy_kernel.specs.declared.engine.Figure.{Figure}
use Rattle.psy_kernel.specs.declared.engine.Runner.{Runner}
use Rattle.psy_kernel.specs.declared.engine.lines.Mark.{Mark}
use Rattle.psy_kernel.specs.Standing.{told_from}
use Rattle.psy_kernel.specs.Texts.{event_line}

-- ---- lines of a date

-- What is shared stands for a history of a plan that begins soundly, behind a date that wasn't done before.
pub record StandsBehind (plan : Plan) (opening : Opening) (stalls : ℕ → List Stall) (turns : ℕ → List (Option Turn)) (date : ℕ) (shared : Shared) : Type 0 where
  pub sound : IsSoundFor plan opening shared.inputs.lists stalls
  pub later : opening.dates ≤ date
  pub stands : SharedStands (opened_of plan opening shared.inputs.lists stalls) plan.sizes turns (date + 1) shared

-- The line of an agent's stop, by its trap; by an overrun where there is none
abbrev pub stop_line : ℕ → List ℕ → Option Trap → List ℕ
stop_line date name None = stop_overrun_line date name
stop_line date name (Some kind) = stop_trap_line date name kind

-- A seat whose agent fell silent at a date tells its stop, and another one nothing.
abbrev pub TellsStop : Seat → List ℕ → ℕ → Bool → List ℕ → List ℕ → Type 0
TellsStop seat name date true old new = (seat.phase ≡ phase.Silent) × (seat.deadline ≡ date) × (new ≡ stop_line date name seat.trap)
TellsStop seat name date false old new = (seat.phase ≡ phase.Silent → seat.deadline ≡ date → ⊥) × (new ≡ old)

-- A variable that has an owner tells its value at a date of its clock, and else nothing.
abbrev pub TellsValue : VarDecl → Clock → ℤ → ℕ → Bool → List ℕ → List ℕ → Type 0
TellsValue v clock value date true old new = IsSome v.owner × (is_date clock date ≡ true) × (new ≡ value_line date v.name value)
TellsValue v clock value date false old new = (IsSome v.owner → is_date clock date ≡ true → ⊥) × (new ≡ old)

-- What is told of a date at one place: the stop of an agent, or behind the agents what a variable publishes
abbrev pub told_by : System → ℕ → ℕ → List Event
told_by s date place =
    if nat_lt place (length s.unit.agents) then stops_of date (history s (date + 1) place)
    else publications s (history s (date + 1)) date (place - length s.unit.agents)

-- One event is told by its line, or there is none to tell.
abbrev pub IsToldBy : System → ℕ → List Event → Bool → List ℕ → List ℕ → Type 0
IsToldBy s date events true old new = (event : Event) × (events ≡ event ∷ []) × (new ≡ event_line s date event)
IsToldBy s date events false old new = (events ≡ []) × (new ≡ old)

-- A message that becomes visible at a date, behind so many others of its stream, is told by its value; or there are no more.
abbrev pub TellsMessage : List Message → List ℕ → ℕ → ℕ → Bool → List ℕ → List ℕ → Type 0
TellsMessage messages name date shown true old new = (m : Message) × (slice_get (filter (λ (n : Message). n.visible == date) messages) shown ≡ Some m)
    × (new ≡ message_line date name m.value)
TellsMessage messages name date shown false old new = (length (filter (λ (n : Message). n.visible == date) messages) ≤ shown) × (new ≡ old)

-- The event that a stream shows at a date behind so many others is told by its line; or there are no more.
abbrev pub IsShownBy : System → ℕ → ℕ → ℕ → Bool → List ℕ → List ℕ → Type 0
IsShownBy s date stream shown true old new = (event : Event) × (slice_get (shows s (history s (date + 1)) date stream) shown ≡ Some event)
    × (new ≡ event_line s date event)
IsShownBy s date stream shown false old new = (length (shows s (history s (date + 1)) date stream) ≤ shown) × (new ≡ old)

-- How many places there are before those of the streams: one for each agent and one for each variable
abbrev pub places_of : System → ℕ
places_of s = length s.unit.agents + length s.unit.variables

-- From a place on, behind so many messages of the stream there, the first event up to an end is told by its line, and the walk goes on
-- behind it; or there is none to tell.
abbrev pub IsNextTold : System → ℕ → ℕ → ℕ → ℕ → Option Mark → List ℕ → List ℕ → Type 0
IsNextTold s date end place shown (Some mark) old new =
    (mark.place ≤ end) × (mark.place < places_of s → mark.shown ≡ 0)
    × (event : Event) × (told_from s date mark.place mark.shown ≡ told_from s date place shown ++ event ∷ []) × (new ≡ event_line s date event)
IsNextTold s date end place shown None old new = (told_from s date end 0 ≡ told_from s date place shown) × (new ≡ old)

-- ---- lines of the summary

-- The figure of an agent: of nothing where there is none
abbrev pub figure_in : Option Runner → Figure
figure_in None = record { count = 0; slack = None }
figure_in (Some runner) = runner.figure

-- An agent's line, by its figure
abbrev pub figure_line : Whole → List Runner → ℕ → List ℕ
figure_line unit runners agent =
    let figure = figure_in (slice_get runners agent) in
    agent_line (agent_at unit agent).name figure.count figure.slack

-- A variable's line, by how far back its ring was reached for
abbrev pub reach_line : Plan → List (Option ℕ) → ℕ → List ℕ
reach_line plan reaches variable = variable_line (variable_at plan.unit variable).name (get_or plan.sizes.rings variable 0) (get_or reaches variable None)

-- A stream's line, by the most messages that it held
abbrev pub held_line : Plan → List ℕ → ℕ → List ℕ
held_line plan helds stream = stream_line (stream_at plan.unit stream).name (get_or plan.sizes.queues stream 0) (get_or helds stream 0)

-- The lines of the summary, by what the agents have, by how far back rings were reached for and by how many messages streams held
abbrev pub figured_lines : Plan → List Runner → List (Option ℕ) → List ℕ → List (List ℕ)
figured_lines plan runners reaches helds =
    end_line plan.until
    ∷ (map (figure_line plan.unit runners) (range_with_len 0 (length plan.unit.agents))
    ++ (map (reach_line plan reaches) (range_with_len 0 (length plan.unit.variables))
    ++ map (held_line plan helds) (range_with_len 0 (length plan.unit.streams))))
