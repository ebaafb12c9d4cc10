-- What is gathered of notes that come one by one.
use Rattle.std.specs.Prelude.{◌≡◌, ◌<◌, ◌≤◌, ◌⊎◌, ◌++◌, ◌&&◌, ◌-◌, ◌^◌, ℕ, Bool, true, false, List, [], ◌∷◌, None, bytes_eq, filter, length, map, min, not}
use Rattle.std.specs.List.{count_by, flat_map, list_any}
use Rattle.psy_log.specs.declared.note.Note.{Note}
use Rattle.psy_log.specs.declared.note.Note.TheVariants as note
use Rattle.psy_draw.specs.ByName.{Each}
use Rattle.psy_draw.specs.Columns.{Dated, Keeps, is_there, is_there_still}
use Rattle.psy_draw.specs.Dates.{last_date}
use Rattle.psy_draw.specs.Homes.{Housed}
use Rattle.psy_draw.specs.Lanes.{is_asked, last_alone, may_have_lane, message_values, values_before, values_within}
use Rattle.psy_draw.specs.Planning.{Are, Shown, stop_lanes}
use Rattle.psy_draw.specs.Scales.{place_by}
use Rattle.psy_draw.specs.Told.{values_of}
use Rattle.psy_draw.specs.declared.firsts.Firsts.{Firsts}
use Rattle.psy_draw.specs.declared.gathering.Gathering.{Gathering}
use Rattle.psy_draw.specs.declared.lane.Lane.{Lane}
use Rattle.psy_draw.specs.declared.outset.Outset.{Outset}
use Rattle.psy_draw.specs.declared.room.TheConstants.{MOST_LANES}
use Rattle.psy_draw.specs.declared.scale.Scale.{Scale}
use Rattle.psy_draw.specs.declared.series.Series.{Series}
use Rattle.psy_draw.specs.declared.stopped.Stopped.{Stopped}

-- The note has a date: it tells of a stop, a value or a message.
abbrev pub is_dated : Note → Bool
is_dated (note.StopOverrun date agent) = true
is_dated (note.StopTrap date agent kind) = true
is_dated (note.Value date variable value) = true
is_dated (note.Message date stream value) = true
is_dated _ = false

-- The notes without a date: of a run those of its end and its summary
abbrev pub undated : List Note → List Note
undated notes = filter (λ n. not (is_dated n)) notes

-- The note is the summary's line of this variable, which was asked for.
abbrev pub asks_variable : List (List ℕ) → List ℕ → Note → Bool
asks_variable names name (note.VariableEnd variable size reach) = bytes_eq name variable.now && is_asked names variable.now
asks_variable names name _ = false

-- The note is the summary's line of this stream, which was asked for.
abbrev pub asks_stream : List (List ℕ) → List ℕ → Note → Bool
asks_stream names name (note.StreamEnd stream size held) = bytes_eq name stream.now && is_asked names stream.now
asks_stream names name _ = false

-- The agent of a stop is among these.
abbrev pub is_known : List (List ℕ) → Note → Bool
is_known agents (note.StopOverrun date agent) = list_any (bytes_eq agent.now) agents
is_known agents (note.StopTrap date agent kind) = list_any (bytes_eq agent.now) agents
is_known agents _ = true

-- The value of a variable at a date: the last up to it
abbrev pub first_values : ℕ → List Note → List ℕ → List Dated
first_values from notes name = last_alone (flat_map (values_before from name) notes)

-- Of each variable this value is kept.
abbrev pub AreFirst : (List ℕ → List Dated) → Firsts → Type 0
AreFirst values firsts = Each (λ name told. values_of told ≡ values name) None firsts.names firsts.told.items

-- The columns of each name stand for its values, by the places of dates and by such a rule.
abbrev pub AreColumns : (ℕ → ℕ) → (List Dated → Dated → Bool) → (List ℕ → List Dated) → Series → Type 0
AreColumns place goes values series =
    Each (λ name columns. Keeps place goes (values name) columns) [] series.names (map (λ c. c.items) series.columns.items)

-- To the columns of each name the values are added that are told of it.
abbrev pub AddsEach : (ℕ → ℕ) → (List Dated → Dated → Bool) → (List ℕ → List Dated) → Series → Series → Type 0
AddsEach place goes more old new =
    (values : List ℕ → List Dated) → AreColumns place goes values old → AreColumns place goes (λ name. values name ++ more name) new

-- The lanes are those of stops; or there are more of them than there is room for.
abbrev pub AreStops : (ℕ → ℕ) → List Shown → List Lane → Bool → Type 0
AreStops place shown lanes false = Are place shown lanes
AreStops place shown lanes true = MOST_LANES < length shown

-- What must be known of notes before their values are drawn: their last date, how many lanes there are at most, as far as they are counted, and of each
-- variable the value at the first date
pub record Counts (names : List (List ℕ)) (from : ℕ) (notes : List Note) (outset : Outset) : Type 0 where
  pub last : outset.last ≡ last_date notes
  pub lanes : outset.lanes ≡ min (count_by (may_have_lane names) notes) (2 ^ 64 - 1)
  pub firsts : AreFirst (first_values from notes) outset.firsts

-- To the lanes of stops these are added.
abbrev pub AddsStops : (ℕ → ℕ) → List Shown → Stopped → Stopped → Type 0
AddsStops place more old new =
    (shown : List Shown) → AreStops place shown old.lanes.items old.full → AreStops place (shown ++ more) new.lanes.items new.full

-- A lane is added, or there is no room for it.
abbrev pub Pushes : Lane → Stopped → Stopped → Type 0
Pushes lane old new =
    ((new.lanes.items ≡ old.lanes.items ++ lane ∷ []) × (new.full ≡ old.full))
    ⊎ ((MOST_LANES ≤ length old.lanes.items) × (new.lanes.items ≡ old.lanes.items) × (new.full ≡ true))

-- The values of a variable: the one at the first date, and those that notes tell behind it
abbrev pub values_behind : Scale → (List ℕ → List Dated) → List Note → List ℕ → List Dated
values_behind scale first notes name = first name ++ flat_map (values_within scale.from scale.to name) notes

-- What was gathered is what these notes tell, of variables with these values at the first date.
pub record Gathers (scale : Scale) (homes : List Housed) (names : List (List ℕ)) (first : List ℕ → List Dated) (notes : List Note) (gathering : Gathering)
    : Type 0 where
  pub stops : AreStops (place_by scale) (flat_map (stop_lanes scale.to homes names) notes) gathering.stopped.lanes.items gathering.stopped.full
  pub variables : AreColumns (place_by scale) (is_there_still (place_by scale)) (values_behind scale first notes) gathering.variables
  pub streams : AreColumns (place_by scale) (is_there (place_by scale)) (λ name. message_values scale.from scale.to name notes) gathering.streams
