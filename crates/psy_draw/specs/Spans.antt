-- The least and the greatest value of a lane.
use Rattle.std.specs.Prelude.{ℕ, ℤ, List, [], ◌∷◌, cond, length, max}
use Rattle.std.specs.Fmt.{signed_decimal}
use Rattle.std.specs.Int.{int_max, int_min}
use Rattle.std.specs.List.{fold}
use Rattle.std.specs.Ordering.{int_eq}
use Rattle.psy_draw.specs.declared.column.Column.{Column}
use Rattle.psy_draw.specs.declared.span.Span.{Span}
use Rattle.psy_draw.specs.Places.{y_of}

-- The least and the greatest value, of those two and a column's
abbrev pub span_with : Span → Column → Span
span_with span c = record { least = int_min span.least c.least; greatest = int_max span.greatest c.greatest }

-- Those of a column and of the columns behind it
abbrev pub span_of : Column → List Column → Span
span_of first rest = fold span_with (record { least = first.least; greatest = first.greatest }) rest

-- Where the line is at a value
abbrev pub y_in : Span → ℤ → ℕ
y_in span value = y_of span.least span.greatest value

-- The letters of the least or the greatest value, whichever has more; 0 where they are one
abbrev pub bound_letters : Span → ℕ
bound_letters span = cond (int_eq span.least span.greatest) 0 (max (length (signed_decimal span.least)) (length (signed_decimal span.greatest)))

-- Those of some columns; 0 where there is none
abbrev pub letters_of : List Column → ℕ
letters_of [] = 0
letters_of (c ∷ columns) = bound_letters (span_of c columns)
