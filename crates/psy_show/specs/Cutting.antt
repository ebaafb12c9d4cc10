-- A line is cut around a place, where it is long.
use Rattle.std.specs.Prelude.{ℕ, ◌+◌, ◌-◌, ◌||◌, nat_le, if◌then◌else◌, List, [], ◌∷◌, ◌++◌, codes, reverse}
use Rattle.psy_show.specs.declared.cut.TheConstants.{BEFORE, DOTS, LINE}
use Rattle.psy_show.specs.Columns.{columns, width}

-- The longest front of some characters that takes no more columns than these
abbrev pub front_within : ℕ → List ℕ → List ℕ
front_within most [] = []
front_within most (c ∷ cs) = if nat_le (width c) most then c ∷ front_within (most - width c) cs else []

-- The longest back
abbrev pub back_within : ℕ → List ℕ → List ℕ
back_within most cs = reverse (front_within most (reverse cs))

-- What stands for what is cut off
abbrev pub dots : List ℕ
dots = codes ".."

-- What is shown of a line before a place: all where that are at most 50 columns, or where the line has at most 100; else `..` and the back
abbrev pub front_of : List ℕ → List ℕ → List ℕ
front_of before behind =
    if nat_le (columns before) BEFORE || nat_le (columns before + columns behind) LINE then before else dots ++ back_within (BEFORE - DOTS) before

-- What is shown from the place on, in so many columns: all that fits; else the front and `..`
abbrev pub back_of : ℕ → List ℕ → List ℕ
back_of room behind = if nat_le (columns behind) room then behind else front_within (room - DOTS) behind ++ dots

-- The same in the columns that what is shown before it leaves
abbrev pub back_behind : List ℕ → List ℕ → List ℕ
back_behind before behind = back_of (LINE - columns (front_of before behind)) behind
