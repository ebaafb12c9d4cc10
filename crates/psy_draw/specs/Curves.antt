-- The line of a variable, which steps from value to value.
use Rattle.std.specs.Prelude.{◌+◌, ◌-◌, ◌++◌, ◌&&◌, ◌||◌, ◌==◌, ℕ, ℤ, Bool, true, List, [], ◌∷◌, Option, None, Some}
use Rattle.std.specs.Prelude.{cond, decimal, int_le, int_lt, nat_le, not, pos}
use Rattle.std.specs.Fmt.{signed_decimal}
use Rattle.std.specs.Bool.{beq}
use Rattle.std.specs.Ordering.{int_eq}
use Rattle.psy_draw.specs.declared.column.Column.{Column}
use Rattle.psy_draw.specs.declared.curve.TheConstants.{AHEAD, LINE, LINE_END, SILENT_LINE, TICK, ZERO}
use Rattle.psy_draw.specs.declared.labels.Side.{Side}
use Rattle.psy_draw.specs.declared.labels.Side.TheVariants as side
use Rattle.psy_draw.specs.declared.span.Span.{Span}
use Rattle.psy_draw.specs.Columns.{is_even, none_greater, none_less, up_to, voiced_end}
use Rattle.psy_draw.specs.Labels.{label_text, label_width}
use Rattle.psy_draw.specs.Spans.{span_of, y_in}
use Rattle.psy_draw.specs.Strokes.{dashes, upright}
use Rattle.psy_page.specs.Templates.{fill}

-- ---- beside the line

-- A value at the left of the line, at a height, and a tick
abbrev pub tick_text : ℕ → ℤ → List ℕ
tick_text y value = fill TICK.now (decimal y ∷ decimal (y + 3) ∷ signed_decimal value ∷ [])

-- The greatest and the least value, where they differ
abbrev pub bounds_text : Span → List ℕ
bounds_text span = cond (int_le span.greatest span.least) [] (tick_text 16 span.greatest ++ tick_text 48 span.least)

-- The number of 0 at its height, where there is room between those of the greatest and the least value
abbrev pub zero_number : ℕ → List ℕ
zero_number y = cond (nat_le 26 y && nat_le (y + 10) 48) (tick_text y (pos 0)) []

-- A line at that height, and the number
abbrev pub zero_at : ℕ → List ℕ
zero_at y = fill ZERO.now (decimal y ∷ decimal 960 ∷ []) ++ zero_number y

-- That line where some values are less than 0 and some greater
abbrev pub zero_text : Span → List ℕ
zero_text span = cond (int_le (pos 0) span.least || int_le span.greatest (pos 0)) [] (zero_at (y_in span (pos 0)))

-- ---- the line

-- From a height over a column: to its least value, to its greatest, to its last
abbrev pub stroke_text : Span → Column → ℕ → List ℕ
stroke_text span c y =
    upright y (y_in span c.least) ++ (upright (y_in span c.least) (y_in span c.greatest) ++ upright (y_in span c.greatest) (y_in span c.last))

-- The line is at this height all through the column.
abbrev pub stays : Span → Column → ℕ → Bool
stays span c y = (y_in span c.least == y) && (y_in span c.greatest == y)

-- From a height up to a column, to its first value, and over it; nothing where the line stays
abbrev pub step_text : Span → Column → ℕ → List ℕ
step_text span c y =
    cond (stays span c y) [] (fill AHEAD.now (decimal c.x ∷ []) ++ (upright y (y_in span c.first) ++ stroke_text span c (y_in span c.first)))

-- The height behind the column
abbrev pub step_end : Span → Column → ℕ → ℕ
step_end span c y = cond (stays span c y) y (y_in span c.last)

-- From a height over columns
abbrev pub steps_text : Span → List Column → ℕ → List ℕ
steps_text span [] y = []
steps_text span (c ∷ columns) y = step_text span c y ++ steps_text span columns (step_end span c y)

-- The height behind them
abbrev pub steps_end : Span → List Column → ℕ → ℕ
steps_end span [] y = y
steps_end span (c ∷ columns) y = steps_end span columns (step_end span c y)

-- A line at a height that is dashed, from a place to the end of the plot
abbrev pub silent_line : ℕ → ℕ → List ℕ
silent_line from y = dashes from SILENT_LINE.now (decimal from ∷ decimal y ∷ decimal 960 ∷ [])

-- The line over columns, up to a place; from there on it is dashed
abbrev pub line_text : Span → Column → List Column → ℕ → List ℕ
line_text span first rest end =
    fill LINE.now (decimal first.x ∷ decimal (y_in span first.first) ∷ [])
    ++ (stroke_text span first (y_in span first.first) ++ (steps_text span rest (y_in span first.last)
    ++ (fill LINE_END.now (decimal end ∷ []) ++ silent_line end (steps_end span rest (y_in span first.last)))))

-- ---- the values that are written at the line

-- The first other value of columns, where the columns before it have this one alone
abbrev pub first_other : ℤ → List Column → Option ℤ
first_other value [] = None
first_other value (c ∷ columns) = cond (int_eq c.first value) (cond (is_even c) (first_other value columns) None) (Some c.first)

-- Between these two, where both are there, a value isn't passed in rising or in falling.
abbrev pub turns_at : ℤ → Option ℤ → Option ℤ → Bool
turns_at value (Some before) (Some behind) = beq (int_lt before value) (int_lt behind value)
turns_at value _ _ = true

-- As far as this the line holds a value that has a label: 5 pixels where it turns there, else the whole label
abbrev pub held_to : Option ℤ → Column → List Column → ℕ
held_to before c columns = cond (turns_at c.last before (first_other c.last columns)) (c.x + 5) (c.x + 3 + label_width (signed_decimal c.last))

-- The columns up to a place have this value alone.
abbrev pub holds : ℤ → List Column → ℕ → Bool
holds value columns to = none_greater value (up_to to columns) && none_less value (up_to to columns)

-- The side of a label up to a place on which the line doesn't go through it
abbrev pub side_by : ℤ → List Column → ℕ → Option Side
side_by value columns to = cond (none_greater value (up_to to columns)) (Some side.Over) (cond (none_less value (up_to to columns)) (Some side.Under) None)

-- The label of a column has room from a place on, up to the picture's end, and the line holds its value.
abbrev pub has_room : Option ℤ → Column → List Column → ℕ → Bool
has_room before c columns free =
    (nat_le free (c.x + 3) && nat_le (c.x + 3 + label_width (signed_decimal c.last)) 1000) && holds c.last columns (held_to before c columns)

-- The side of the label, where there is one
abbrev pub label_side : Option ℤ → Column → List Column → ℕ → Option Side
label_side before c columns free = cond (has_room before c columns free) (side_by c.last columns (c.x + 3 + label_width (signed_decimal c.last))) None

-- The label on a side: 4 pixels over the line, or 11 under it
abbrev pub label_on : Span → Column → Option Side → List ℕ
label_on span c None = []
label_on span c (Some side.Over) = label_text (c.x + 3) (y_in span c.last - 4) c.last
label_on span c (Some side.Under) = label_text (c.x + 3) (y_in span c.last + 11) c.last

-- From where the next label has room
abbrev pub free_behind : Column → Option Side → ℕ → ℕ
free_behind c None free = free
free_behind c (Some side) free = c.x + 3 + label_width (signed_decimal c.last) + 4

-- The line comes to another value in the column, and has that alone there.
abbrev pub is_new : Option ℤ → Column → Bool
is_new None c = is_even c
is_new (Some before) c = is_even c && not (int_eq before c.last)

-- The label of a column behind a value, where the line comes to another one there
abbrev pub turn_text : Span → Option ℤ → Column → List Column → ℕ → List ℕ
turn_text span before c columns free = cond (is_new before c) (label_on span c (label_side before c columns free)) []

-- From where there is room behind it
abbrev pub turn_free : Option ℤ → Column → List Column → ℕ → ℕ
turn_free before c columns free = cond (is_new before c) (free_behind c (label_side before c columns free) free) free

-- The labels of columns behind a value, from a place on
abbrev pub curve_labels : Span → Option ℤ → List Column → ℕ → List ℕ
curve_labels span before [] free = []
curve_labels span before (c ∷ columns) free = turn_text span before c columns free ++ curve_labels span (Some c.last) columns (turn_free before c columns free)

-- ---- all of it

-- The bounds, the line at 0, the line of the values, and values that are written at it
abbrev pub curve_inside : List Column → ℕ → List ℕ
curve_inside [] silent = []
curve_inside (c ∷ columns) silent =
    bounds_text (span_of c columns) ++ (zero_text (span_of c columns)
    ++ (line_text (span_of c columns) c columns (voiced_end (c ∷ columns) silent) ++ curve_labels (span_of c columns) None (c ∷ columns) 0))
