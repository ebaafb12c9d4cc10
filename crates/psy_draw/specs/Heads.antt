-- The names of lanes.
use Rattle.std.specs.Prelude.{◌+◌, ℕ, List, length, max}
use Rattle.std.specs.List.{fold}
use Rattle.psy_draw.specs.declared.lane.Lane.{Lane}
use Rattle.psy_draw.specs.Shapes.{processor_of}
use Rattle.psy_draw.specs.Homes.{on_processor}

-- The bytes of a lane's name, and of the processor behind it, where there is one
abbrev pub name_letters : Lane → ℕ
name_letters lane = length lane.name.now + length (on_processor (processor_of lane.shape))

-- Those of the lane that has the most, and 5 where none has more
abbrev pub longest_name : List Lane → ℕ
longest_name lanes = fold (λ most lane. max (name_letters lane) most) 5 lanes
