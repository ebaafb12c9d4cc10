-- The picture of a run.
use Rattle.std.specs.Prelude.{◌≡◌, ◌⊎◌, ◌<◌, ◌≤◌, ◌++◌, ℕ, List, [], ◌∷◌, None, cond, decimal, length, min, nat_le}
use Rattle.std.specs.List.{count_by, flat_map}
use Rattle.psy_base.specs.declared.limits.TheConstants.{UNTIL}
use Rattle.psy_draw.specs.declared.file.TheConstants.{INSIDE_BYTES, SVG, SVG_END, TOO_LARGE}
use Rattle.psy_draw.specs.declared.legend.TheConstants.{INPUTS, LEGEND}
use Rattle.psy_draw.specs.declared.lane.Lane.{Lane}
use Rattle.psy_draw.specs.declared.window.Window.{Window}
use Rattle.psy_draw.specs.Axes.{axis_text, grid_text, ticks_of}
use Rattle.psy_draw.specs.Dates.{last_date}
use Rattle.psy_draw.specs.Drawing.{stacked, tells_parts}
use Rattle.psy_draw.specs.Frames.{bottom_of, inputs_top, left_of, legend_top, picture_height, picture_width, tables_top}
use Rattle.psy_draw.specs.Inputs.{input_lines, input_text}
use Rattle.psy_draw.specs.Knowledge.{Knowledge}
use Rattle.psy_draw.specs.Lanes.{may_have_lane}
use Rattle.psy_draw.specs.Listing.{first_unasked, first_unlisted}
use Rattle.psy_draw.specs.Places.{grain_of, window_end, x_of}
use Rattle.psy_draw.specs.Planning.{Are, HasManyLanes, input_names, lanes_of}
use Rattle.psy_draw.specs.Rows.{Entry}
use Rattle.psy_draw.specs.Showing.{agent_rows, stream_rows, variable_rows}
use Rattle.psy_draw.specs.Summaries.{HasManyRows, tables_height, tables_text, tables_width}
use Rattle.psy_draw.specs.Titles.{head_text}
use Rattle.psy_log.specs.declared.note.Note.{Note}
use Rattle.psy_page.specs.Templates.{fill}

-- The dates of a grid: its lines behind the lanes, the axis above them, and, where they are high, the one below
abbrev pub ticks_text : (ℕ → ℕ) → List ℕ → ℕ → ℕ → List ℕ
ticks_text place ticks left bottom =
    grid_text place ticks left bottom ++ (axis_text place ticks left 26 ++ cond (nat_le 536 bottom) (axis_text place ticks left bottom) [])

-- Those of a picture
abbrev pub dates_text : ℕ → ℕ → ℕ → ℕ → ℕ → List ℕ
dates_text from to grain left bottom = ticks_text (x_of from to grain) (ticks_of from to) left bottom

-- The file of one SVG element with this inside
abbrev pub svg_of : List ℕ → List ℕ
svg_of inside = SVG.now ++ (inside ++ SVG_END.now)

-- The names of the variables without a value, at a height
abbrev pub inputs_group : ℕ → List ℕ → List ℕ
inputs_group top text = fill INPUTS.now (decimal top ∷ text ∷ [])

-- How the picture is read, at a height
abbrev pub legend_text : ℕ → List ℕ
legend_text top = fill LEGEND.now (decimal top ∷ [])

-- The parts of a picture one behind the other: its head, its dates, its lanes, the names of variables without a value, how it is read, and the tables of
-- the summary
abbrev pub parts_text : List ℕ → ℕ → ℕ → ℕ → List Lane → ℕ → List ℕ → List Entry → List Entry → List Entry → List ℕ
parts_text name from to grain lanes lines inputs agents variables streams =
    head_text (picture_width lanes (tables_width agents variables streams)) (picture_height lanes lines (tables_height agents variables streams)) name from to
    ++ (dates_text from to grain (left_of lanes) (bottom_of lanes)
    ++ (stacked (x_of from to grain) (tells_parts lanes) (left_of lanes) 56 lanes
    ++ (inputs_group (inputs_top lanes) inputs
    ++ (legend_text (legend_top lanes lines)
    ++ tables_text (tables_top lanes lines) agents variables streams))))

-- The inside of the file of a picture of a run from a date to another, by columns of this grain
pub record IsInside (name : List ℕ) (from to grain : ℕ) (known : Knowledge) (names : List (List ℕ)) (notes : List Note) (text : List ℕ) : Type 0 where
  pub lanes : List Lane
  pub are : Are (x_of from to grain) (lanes_of from to known names notes) lanes
  pub inputs : List (List ℕ)
  pub named : inputs ≡ flat_map (input_names from to names notes) notes
  pub whole : text ≡ parts_text name from to grain lanes (input_lines inputs) (input_text inputs) (flat_map agent_rows notes)
      (flat_map variable_rows notes) (flat_map stream_rows notes)

-- A picture of it would have too many lanes, names or rows.
abbrev pub IsCrowded : ℕ → ℕ → Knowledge → List (List ℕ) → List Note → Type 0
IsCrowded from to known names notes =
    HasManyLanes (lanes_of from to known names notes) (flat_map (input_names from to names notes) notes)
    ⊎ HasManyRows (flat_map agent_rows notes) (flat_map variable_rows notes) (flat_map stream_rows notes)

-- A file of a run: that of the picture, where this has room; or the picture would have too many lanes, names or rows, or too many bytes, and the file says
-- that it would be too large.
pub data IsFile (name : List ℕ) (from to grain : ℕ) (known : Knowledge) (names : List (List ℕ)) (notes : List Note) (svg : List ℕ) : Type 0 where
  pictured : (inside : List ℕ) → (IsCrowded from to known names notes → ⊥) → IsInside name from to grain known names notes inside
      → length inside ≤ INSIDE_BYTES → svg ≡ svg_of inside → IsFile name from to grain known names notes svg
  crowded : IsCrowded from to known names notes → svg ≡ svg_of TOO_LARGE.now → IsFile name from to grain known names notes svg
  long : (inside : List ℕ) → (IsCrowded from to known names notes → ⊥) → IsInside name from to grain known names notes inside
      → INSIDE_BYTES < length inside → svg ≡ svg_of TOO_LARGE.now → IsFile name from to grain known names notes svg

-- The same of a window
abbrev pub IsFileOf : List ℕ → Window → Knowledge → List (List ℕ) → List Note → List ℕ → Type 0
IsFileOf name window known names notes svg =
    IsFile name (min window.from UNTIL) (min (window_end window (last_date notes)) UNTIL) (grain_of (count_by (may_have_lane names) notes))
    known names notes svg

-- A picture of a window and of these names, of a run's notes, whose names the summary lists, as it does those that were asked for, with what is
-- known of it and this title: an SVG file of at most 2,000,000 bytes, which is the whole picture, or says that it would be too large
pub record IsPicture (name : List ℕ) (window : Window) (knowledge : Knowledge) (names : List (List ℕ)) (notes : List Note) (svg : List ℕ) : Type 0 where
  pub listed : first_unlisted notes ≡ None
  pub known : first_unasked notes names ≡ None
  pub dated : window.from ≤ window_end window (last_date notes)
  pub file : IsFileOf name window knowledge names notes svg
  pub small : length svg ≤ 2000000
