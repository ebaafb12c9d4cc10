-- Where the parts of a picture stand, in pixels.
use Rattle.std.specs.Prelude.{◌+◌, ◌*◌, ◌≤◌, ℕ, List, cond, length, max, nat_le}
use Rattle.std.specs.List.{fold}
use Rattle.psy_draw.specs.declared.lane.Lane.{Lane}
use Rattle.psy_draw.specs.declared.lane.Shape.{Shape}
use Rattle.psy_draw.specs.declared.lane.Shape.TheVariants as shape
use Rattle.psy_draw.specs.declared.layout.TheConstants.{LABEL_LETTER, NAME_LETTER}
use Rattle.psy_draw.specs.declared.room.TheConstants.{MOST_ROWS}
use Rattle.psy_draw.specs.declared.tables.Tables.{Tables}
use Rattle.psy_draw.specs.Drawing.{heights}
use Rattle.psy_draw.specs.Heads.{longest_name}
use Rattle.psy_draw.specs.Places.{width_of}
use Rattle.psy_draw.specs.Spans.{letters_of}

-- The letters of the longest bound at the left of a shape, 0 where it has none
abbrev pub shape_letters : Shape → ℕ
shape_letters (shape.Curve columns) = letters_of columns.items
shape_letters _ = 0

-- Those of the longest bound of lanes
abbrev pub longest_bound : List Lane → ℕ
longest_bound lanes = fold (λ most lane. max (shape_letters lane.shape) most) 0 lanes

-- The plot's left end: behind the names and the bounds
abbrev pub left_of : List Lane → ℕ
left_of lanes = width_of (longest_name lanes) NAME_LETTER + width_of (longest_bound lanes) LABEL_LETTER + 28

-- The lanes' lower end
abbrev pub bottom_of : List Lane → ℕ
bottom_of lanes = 56 + heights lanes

-- The upper end of the names without a value, below a second axis where the lanes are high
abbrev pub inputs_top : List Lane → ℕ
inputs_top lanes = bottom_of lanes + cond (nat_le 536 (bottom_of lanes)) 30 0 + 12

-- That of the line that tells how the picture is read, behind so many lines of names
abbrev pub legend_top : List Lane → ℕ → ℕ
legend_top lanes lines = inputs_top lanes + lines * 16 + 12

-- That of the tables
abbrev pub tables_top : List Lane → ℕ → ℕ
tables_top lanes lines = legend_top lanes lines + 40

-- The height of the picture, with tables that are so high
abbrev pub picture_height : List Lane → ℕ → ℕ → ℕ
picture_height lanes lines high = tables_top lanes lines + high + 12

-- Its width, with tables that are so wide
abbrev pub picture_width : List Lane → ℕ → ℕ
picture_width lanes wide = max (left_of lanes + 1000) wide

-- No table has more rows than there is room for.
pub record HaveRoom (tables : Tables) : Type 0 where
  pub agents : length tables.agents.rows.items ≤ MOST_ROWS
  pub variables : length tables.variables.rows.items ≤ MOST_ROWS
  pub streams : length tables.streams.rows.items ≤ MOST_ROWS
