-- The lines that are written where a run can't be exported. Names stand in them as they are shown on a screen.
use Rattle.std.specs.Prelude.{ℕ, List, ◌++◌, codes, decimal}
use Rattle.psy_passes.specs.declared.reading.TheConstants.{LINES}
use Rattle.psy_show.specs.Lines.{shown}

-- The file can't be read
abbrev pub unread_line : List ℕ → List ℕ
unread_line name = codes "read " ++ shown name ++ codes "\n"

-- From this line on a text isn't what `psyc run` writes
abbrev pub broken_line : List ℕ → ℕ → List ℕ
broken_line name line = shown name ++ codes ":" ++ decimal line ++ codes ": from this line on this isn't what `psyc run` writes\n"

-- This line has a name that the summary doesn't list
abbrev pub unlisted_line : List ℕ → ℕ → List ℕ
unlisted_line name line = shown name ++ codes ":" ++ decimal line ++ codes ": the summary doesn't list this name\n"

-- The file has more than so many of what is counted
abbrev pub more_line : List ℕ → ℕ → List ℕ → List ℕ
more_line name most counted = shown name ++ codes ": this file has more than " ++ decimal most ++ codes " " ++ counted ++ codes "\n"

-- The text has more lines than a run may have
abbrev pub many_line : List ℕ → List ℕ
many_line name = more_line name LINES (codes "lines")
