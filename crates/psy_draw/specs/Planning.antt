-- Which lanes a picture has.
use Rattle.std.specs.Prelude.{◌≡◌, ◌<◌, ◌⊎◌, ◌++◌, ◌&&◌, ◌==◌, ℕ, true, false, List, [], ◌∷◌, Option, None, Some, cond, length, nat_le}
use Rattle.std.specs.List.{flat_map}
use Rattle.psy_arith.specs.declared.operators.Trap.{Trap}
use Rattle.psy_draw.specs.Columns.{Dated, Keeps, is_few, is_there, is_there_still}
use Rattle.psy_draw.specs.declared.column.Column.{Column}
use Rattle.psy_draw.specs.declared.lane.Lane.{Lane}
use Rattle.psy_draw.specs.declared.lane.Shape.{Shape}
use Rattle.psy_draw.specs.declared.lane.Shape.TheVariants as shape
use Rattle.psy_draw.specs.declared.room.TheConstants.{MOST_LANES}
use Rattle.psy_draw.specs.Homes.{Housed, home_at}
use Rattle.psy_draw.specs.Knowledge.{Knowledge}
use Rattle.psy_draw.specs.Lanes.{held_values, is_asked, message_values}
use Rattle.psy_draw.specs.Silences.{Silent, silence_at}
use Rattle.psy_log.specs.declared.note.Note.{Note}
use Rattle.psy_log.specs.declared.note.Note.TheVariants as note

-- What a lane shows: a stop at a date, by a trap or by a spent budget, of an agent of a processor, where one is told; the values of a variable; the messages of
-- a stream
pub data Content : Type 0 where
  Stopped : ℕ → Option Trap → Option ℕ → Content
  Held : List Dated → Content
  Sent : List Dated → Content

-- A name, from when on it is silent, and what its lane shows
pub record Shown : Type 0 where
  pub name : List ℕ
  pub silent : Option ℕ
  pub content : Content

-- The lane of a stop up to a date, where its agent was asked for
abbrev pub stop_lane : ℕ → List Housed → List (List ℕ) → ℕ → List ℕ → Option Trap → List Shown
stop_lane to homes names date agent trap =
    cond (nat_le date to && is_asked names agent) (record { name = agent; silent = None; content = Stopped date trap (home_at homes agent) } ∷ []) []

-- The lane that a note tells of a stopped agent
abbrev pub stop_lanes : ℕ → List Housed → List (List ℕ) → Note → List Shown
stop_lanes to homes names (note.StopOverrun date agent) = stop_lane to homes names date agent.now None
stop_lanes to homes names (note.StopTrap date agent kind) = stop_lane to homes names date agent.now (Some kind)
stop_lanes to homes names _ = []

-- The lane of a variable's values, where there are some and it was asked for
abbrev pub value_lane : List Silent → List (List ℕ) → List ℕ → List Dated → List Shown
value_lane silences names name values =
    cond (length values == 0) [] (cond (is_asked names name) (record { name = name; silent = silence_at silences name; content = Held values } ∷ []) [])

-- The name of a variable that has no value, where it was asked for
abbrev pub input_name : List (List ℕ) → List ℕ → List Dated → List (List ℕ)
input_name names name values = cond (length values == 0) (cond (is_asked names name) (name ∷ []) []) []

-- The name of a variable in the summary of a run with these notes, where it has no value in a window
abbrev pub input_names : ℕ → ℕ → List (List ℕ) → List Note → Note → List (List ℕ)
input_names from to names notes (note.VariableEnd variable size reach) = input_name names variable.now (held_values from to variable.now notes)
input_names from to names notes _ = []

-- The lane of a variable in the summary of a run with these notes
abbrev pub variable_lanes : ℕ → ℕ → List Silent → List (List ℕ) → List Note → Note → List Shown
variable_lanes from to silences names notes (note.VariableEnd variable size reach) =
    value_lane silences names variable.now (held_values from to variable.now notes)
variable_lanes from to silences names notes _ = []

-- The lane of a stream's messages, where it was asked for
abbrev pub message_lane : List (List ℕ) → List ℕ → List Dated → List Shown
message_lane names name values = cond (is_asked names name) (record { name = name; silent = None; content = Sent values } ∷ []) []

-- The lane of a stream in the summary of a run with these notes
abbrev pub stream_lanes : ℕ → ℕ → List (List ℕ) → List Note → Note → List Shown
stream_lanes from to names notes (note.StreamEnd stream size held) = message_lane names stream.now (message_values from to stream.now notes)
stream_lanes from to names notes _ = []

-- The lanes of a run in a window, from its first date to its last: of the stopped agents, of the variables, of the streams
abbrev pub lanes_of : ℕ → ℕ → Knowledge → List (List ℕ) → List Note → List Shown
lanes_of from to known names notes =
    flat_map (stop_lanes to known.homes names) notes
    ++ (flat_map (variable_lanes from to known.silences names notes) notes ++ flat_map (stream_lanes from to names notes) notes)

-- A shape has what a lane shows, by the places of dates: the stop, or columns that stand for the values; those of a variable are boxes where they keep few
-- different values, and a line else.
abbrev pub Has : (ℕ → ℕ) → Shape → Content → Type 0
Has place (shape.Stop stop) (Stopped date trap processor) = (stop.date ≡ date) × (stop.trap ≡ trap) × (stop.processor ≡ processor) × (stop.x ≡ place date)
Has place (shape.Curve columns) (Held values) = Keeps place (is_there_still place) values columns.items × (is_few columns.items ≡ false)
Has place (shape.Boxes columns) (Held values) = Keeps place (is_there_still place) values columns.items × (is_few columns.items ≡ true)
Has place (shape.Marks columns) (Sent values) = Keeps place (is_there place) values columns.items
Has place _ _ = ⊥

-- The shape is that of a variable with these columns.
abbrev pub IsVariable : List Column → Shape → Type 0
IsVariable columns (shape.Curve drawn) = (drawn.items ≡ columns) × (is_few columns ≡ false)
IsVariable columns (shape.Boxes drawn) = (drawn.items ≡ columns) × (is_few columns ≡ true)
IsVariable columns _ = ⊥

-- Lanes are these, in this order, by the places of dates.
abbrev pub Are : (ℕ → ℕ) → List Shown → List Lane → Type 0
Are place [] [] = Unit {0}
Are place (s ∷ shown) (lane ∷ lanes) = (lane.name.now ≡ s.name) × (lane.silent ≡ s.silent) × Has place lane.shape s.content × Are place shown lanes
Are place _ _ = ⊥

-- To planned lanes these are added, behind them.
abbrev pub AddsLanes : (ℕ → ℕ) → List Shown → List Lane → List Lane → Type 0
AddsLanes place more old new = (added : List Lane) × (new ≡ old ++ added) × Are place more added

-- One of two numbers is greater than that of the lanes for which there is room.
abbrev pub HasMany : ℕ → ℕ → Type 0
HasMany lanes names = (MOST_LANES < lanes) ⊎ (MOST_LANES < names)

-- There are more lanes, or more names of variables without a value, than there is room for.
abbrev pub HasManyLanes : List Shown → List (List ℕ) → Type 0
HasManyLanes shown names = HasMany (length shown) (length names)
