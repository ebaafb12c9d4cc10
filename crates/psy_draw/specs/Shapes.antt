-- The shapes of lanes.
use Rattle.std.specs.Prelude.{ℕ, List, [], Option, None, codes}
use Rattle.psy_draw.specs.declared.boxes.TheConstants.{BOXES_HEIGHT}
use Rattle.psy_draw.specs.declared.column.Column.{Column}
use Rattle.psy_draw.specs.declared.curve.TheConstants.{CURVE_HEIGHT}
use Rattle.psy_draw.specs.declared.lane.Shape.{Shape}
use Rattle.psy_draw.specs.declared.lane.Shape.TheVariants as shape
use Rattle.psy_draw.specs.declared.messages.TheConstants.{MESSAGES_HEIGHT}
use Rattle.psy_draw.specs.declared.stops.TheConstants.{STOP_HEIGHT}

-- How high a lane of this shape is
abbrev pub height_of : Shape → ℕ
height_of (shape.Stop stop) = STOP_HEIGHT
height_of (shape.Curve columns) = CURVE_HEIGHT
height_of (shape.Boxes columns) = BOXES_HEIGHT
height_of (shape.Marks columns) = MESSAGES_HEIGHT

-- The class of its group
abbrev pub class_of : Shape → List ℕ
class_of (shape.Stop stop) = codes "stop"
class_of (shape.Curve columns) = codes "variable"
class_of (shape.Boxes columns) = codes "variable"
class_of (shape.Marks columns) = codes "stream"

-- The processor of its agent, where it is the lane of one and the processor is told
abbrev pub processor_of : Shape → Option ℕ
processor_of (shape.Stop stop) = stop.processor
processor_of _ = None

-- Its columns
abbrev pub columns_of : Shape → List Column
columns_of (shape.Stop stop) = []
columns_of (shape.Curve columns) = columns.items
columns_of (shape.Boxes columns) = columns.items
columns_of (shape.Marks columns) = columns.items
