-- A line of a text as it is shown around a place, and the mark below it.
use Rattle.std.specs.Prelude.{ℕ, List, ◌++◌, codes, max, min, replicate, Option, None, Some}
use Rattle.bstr.specs.Utf8.{lossy_chars}
use Rattle.psy_show.specs.Columns.{columns, glyphs}
use Rattle.psy_show.specs.Cutting.{front_of, back_behind, back_of}

-- What is shown of the characters of these bytes before a place and behind it
abbrev pub front : List ℕ → List ℕ → List ℕ
front before behind = front_of (lossy_chars before) (lossy_chars behind)

abbrev pub back : List ℕ → List ℕ → List ℕ
back before behind = back_behind (lossy_chars before) (lossy_chars behind)

-- How many columns from the place on are marked, one at least: so many as are asked for, or all, as far as they are shown
abbrev pub marks : Option ℕ → ℕ → ℕ
marks None shown = max 1 shown
marks (Some wanted) shown = max 1 (min wanted shown)

-- The line, and below it carets, the first of them under the place
abbrev pub shown_line : List ℕ → List ℕ → Option ℕ → List ℕ
shown_line before behind wanted =
    glyphs (front before behind ++ back before behind) ++ codes "\n"
    ++ replicate (columns (front before behind)) 32 ++ replicate (marks wanted (columns (back before behind))) 94 ++ codes "\n"

-- Bytes as they are shown
abbrev pub shown : List ℕ → List ℕ
shown bytes = glyphs (lossy_chars bytes)

-- Bytes as they are shown in so many columns: all that fits, or the front and `..`
abbrev pub shown_in : ℕ → List ℕ → List ℕ
shown_in room bytes = glyphs (back_of room (lossy_chars bytes))
