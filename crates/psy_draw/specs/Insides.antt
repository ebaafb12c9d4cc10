-- What is drawn inside a lane.
use Rattle.std.specs.Prelude.{◌+◌, ◌-◌, ◌/◌, ◌++◌, ◌&&◌, ◌==◌, ℕ, Bool, true, false, List, [], ◌∷◌, Option, None, Some, codes, cond, decimal, max, min, nat_le}
use Rattle.std.specs.Bool.{beq}
use Rattle.std.specs.Fmt.{signed_decimal}
use Rattle.std.specs.List.{flat_map}
use Rattle.psy_draw.specs.declared.boxes.TheConstants.{OUTLINE, SILENT_BOX}
use Rattle.psy_draw.specs.declared.column.Column.{Column}
use Rattle.psy_draw.specs.declared.hover.TheConstants.{OTHERS, PART, PART_END}
use Rattle.psy_draw.specs.declared.lane.Lane.{Lane}
use Rattle.psy_draw.specs.declared.lane.Shape.{Shape}
use Rattle.psy_draw.specs.declared.lane.Shape.TheVariants as shape
use Rattle.psy_draw.specs.declared.layout.TheConstants.{LABEL_LETTER}
use Rattle.psy_draw.specs.declared.markup.TheConstants.{PATH, PATH_END}
use Rattle.psy_draw.specs.declared.messages.TheConstants.{MARK, MARKS, MARK_LABEL, MORE}
use Rattle.psy_draw.specs.Columns.{end_by, is_even, voiced_end}
use Rattle.psy_draw.specs.Curves.{curve_inside}
use Rattle.psy_draw.specs.Labels.{label_text, label_width}
use Rattle.psy_draw.specs.Places.{silent_place, width_of}
use Rattle.psy_draw.specs.Shapes.{columns_of, height_of}
use Rattle.psy_draw.specs.Stops.{stop_inside}
use Rattle.psy_draw.specs.Strokes.{dashes}
use Rattle.psy_page.specs.Spelling.{labelled}
use Rattle.psy_page.specs.Templates.{fill}

-- ---- the boxes of a variable

-- The box of a column, up to a place, where it is one of those with one value, or of those with more
abbrev pub box_text : Bool → Column → ℕ → List ℕ
box_text even c to = cond (beq (is_even c) even) (fill OUTLINE.now (decimal c.x ∷ decimal to ∷ decimal c.x ∷ [])) []

abbrev pub boxes_text : Bool → List Column → ℕ → List ℕ
boxes_text even [] end = []
boxes_text even (c ∷ columns) end = box_text even c (end_by columns end) ++ boxes_text even columns end

-- Boxes of a class
abbrev pub boxes_path : List ℕ → Bool → List Column → ℕ → List ℕ
boxes_path class even columns end = fill PATH.now (class ∷ []) ++ (boxes_text even columns end ++ PATH_END.now)

-- The value of a column that has one, where there is room up to a place
abbrev pub box_label : Column → ℕ → List ℕ
box_label c to = cond (is_even c && nat_le (c.x + 4 + label_width (signed_decimal c.first) + 4) to) (label_text (c.x + 4) 22 c.first) []

abbrev pub box_labels : List Column → List ℕ
box_labels [] = []
box_labels (c ∷ columns) = box_label c (end_by columns 960) ++ box_labels columns

-- The dashed box of a variable that is silent from a place on
abbrev pub silent_box : ℕ → List ℕ
silent_box from = dashes from SILENT_BOX.now (decimal from ∷ decimal 960 ∷ decimal from ∷ [])

-- The boxes of columns of one value, and those of more; a dashed box from where the variable is silent; and the values
abbrev pub boxes_inside : List Column → ℕ → List ℕ
boxes_inside columns silent =
    boxes_path (codes "box") true columns (voiced_end columns silent) ++ (boxes_path (codes "box dense") false columns (voiced_end columns silent)
    ++ (silent_box (voiced_end columns silent) ++ box_labels columns))

-- ---- the marks of a stream

-- The mark of a column
abbrev pub mark_text : Column → List ℕ
mark_text c = fill MARK.now (decimal c.x ∷ [])

-- How many more messages there are than the first, where there are some
abbrev pub more_of : Column → Option ℕ
more_of c = cond (c.more == 0) None (Some c.more)

-- What is written over a mark: the first value, and how many more there are
abbrev pub mark_label : ℕ → Column → List ℕ
mark_label x c = fill MARK_LABEL.now (decimal x ∷ signed_decimal c.first ∷ labelled MORE.now (more_of c) ∷ [])

-- How wide it is
abbrev pub mark_width : Column → ℕ
mark_width c = label_width (signed_decimal c.first) + cond (c.more == 0) 0 (label_width (decimal c.more) + width_of 2 LABEL_LETTER)

-- Where it begins
abbrev pub mark_from : Column → ℕ
mark_from c = c.x - mark_width c / 2

-- It has room from a place on.
abbrev pub mark_fits : ℕ → Column → Bool
mark_fits free c = nat_le free (mark_from c) && nat_le (mark_from c + mark_width c) 1000

-- Of the columns those that have room behind those before them, from a place on, 4 pixels from one another
abbrev pub mark_labels : ℕ → List Column → List ℕ
mark_labels free [] = []
mark_labels free (c ∷ columns) =
    cond (mark_fits free c) (mark_label (mark_from c) c ++ mark_labels (mark_from c + mark_width c + 4) columns) (mark_labels free columns)

-- A line, and a mark for each column
abbrev pub marks_text : List Column → List ℕ
marks_text columns = fill MARKS.now (decimal 960 ∷ []) ++ (flat_map mark_text columns ++ PATH_END.now)

-- These, and what is written over them
abbrev pub marks_inside : List Column → List ℕ
marks_inside columns = marks_text columns ++ mark_labels 0 columns

-- ---- what is told where a pointer rests

-- Where a column at a place is told, by the shape of its lane: a variable's up to the next one, a stream's 4 pixels around its mark, as far as that
abbrev pub part_of : Shape → ℕ → ℕ → ℕ × ℕ
part_of (shape.Marks columns) x end = (x - 4, min end (x + 4))
part_of _ x end = (x, end)

-- The values behind the first, where there are other ones
abbrev pub others_text : Column → List ℕ
others_text c = cond (is_even c) [] (fill OTHERS.now (decimal c.more ∷ signed_decimal c.least ∷ signed_decimal c.greatest ∷ []))

-- There, at least one pixel wide, the date and the value of a column
abbrev pub told_text : ℕ × ℕ → ℕ → Column → List ℕ
told_text part height c =
    fill PART.now (decimal part.0 ∷ decimal (max (part.1 - part.0) 1) ∷ decimal height ∷ decimal c.date ∷ signed_decimal c.first ∷ [])
    ++ (others_text c ++ PART_END.now)

abbrev pub part_text : Shape → Column → ℕ → List ℕ
part_text shape c end = told_text (part_of shape c.x end) (height_of shape) c

-- Each column of a lane of this shape, as far as the next one or the end of the plot
abbrev pub told_parts : Shape → List Column → List ℕ
told_parts shape [] = []
told_parts shape (c ∷ columns) = part_text shape c (end_by columns 960) ++ told_parts shape columns

-- What a shape tells
abbrev pub told_inside : Shape → List ℕ
told_inside shape = told_parts shape (columns_of shape)

-- ---- all that stands in a lane

-- What a shape shows; a variable is silent from a place on
abbrev pub shape_inside : Shape → ℕ → List ℕ
shape_inside (shape.Stop stop) silent = stop_inside stop.x stop.date stop.trap
shape_inside (shape.Curve columns) silent = curve_inside columns.items silent
shape_inside (shape.Boxes columns) silent = boxes_inside columns.items silent
shape_inside (shape.Marks columns) silent = marks_inside columns.items

-- What stands in a lane, by the places of dates: what its shape shows, and what that tells, where parts of the picture tell what they are
abbrev pub lane_inside : (ℕ → ℕ) → Bool → Lane → List ℕ
lane_inside place tells lane = shape_inside lane.shape (silent_place place lane.silent) ++ cond tells (told_inside lane.shape) []
