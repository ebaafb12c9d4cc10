-- What is drawn of lanes.
use Rattle.std.specs.Prelude.{◌+◌, ◌-◌, ◌/◌, ◌++◌, ℕ, Bool, List, [], ◌∷◌, decimal, length, nat_le}
use Rattle.std.specs.List.{flat_map}
use Rattle.psy_draw.specs.declared.drawing.TheConstants.{LANE}
use Rattle.psy_draw.specs.declared.hover.TheConstants.{TELLING_COLUMNS}
use Rattle.psy_draw.specs.declared.lane.Lane.{Lane}
use Rattle.psy_draw.specs.declared.markup.TheConstants.{GROUP_END}
use Rattle.psy_draw.specs.Homes.{on_processor}
use Rattle.psy_draw.specs.Insides.{lane_inside}
use Rattle.psy_draw.specs.Shapes.{class_of, columns_of, height_of, processor_of}
use Rattle.psy_page.specs.Spelling.{escaped}
use Rattle.psy_page.specs.Templates.{fill}

-- The head of a lane at a place: its line at the bottom, and its name, with the processor, where there is one
abbrev pub lane_head : ℕ → ℕ → Lane → List ℕ
lane_head left top lane =
    fill LANE.now (class_of lane.shape ∷ decimal left ∷ decimal top ∷ decimal (left - 12) ∷ decimal (height_of lane.shape) ∷ decimal 960
    ∷ decimal (left - 12) ∷ decimal (height_of lane.shape / 2 + 4) ∷ flat_map escaped lane.name.now ∷ on_processor (processor_of lane.shape) ∷ [])

-- A lane at a place, with what stands in it
abbrev pub drawn_lane : (ℕ → ℕ) → Bool → ℕ → ℕ → Lane → List ℕ
drawn_lane place tells left top lane = lane_head left top lane ++ (lane_inside place tells lane ++ GROUP_END.now)

-- Lanes one below the other, from a height on, and nothing between them
abbrev pub stacked : (ℕ → ℕ) → Bool → ℕ → ℕ → List Lane → List ℕ
stacked place tells left top [] = []
stacked place tells left top (lane ∷ lanes) = drawn_lane place tells left top lane ++ stacked place tells left (top + height_of lane.shape) lanes

-- How many columns lanes have together
abbrev pub column_count : List Lane → ℕ
column_count [] = 0
column_count (lane ∷ lanes) = length (columns_of lane.shape) + column_count lanes

-- The parts of these lanes tell what they are, where a pointer rests on them: they are at most 6,000.
abbrev pub tells_parts : List Lane → Bool
tells_parts lanes = nat_le (column_count lanes) TELLING_COLUMNS

-- How high lanes are together
abbrev pub heights : List Lane → ℕ
heights [] = 0
heights (lane ∷ lanes) = height_of lane.shape + heights lanes
