-- Tables whose rows are found by a byte.
use Rattle.std.specs.Prelude.{ℕ, Bool, true, ◌&&◌, nat_lt, ◌==◌, List, [], ◌∷◌, map, Option}
use Rattle.std.specs.List.{find}
use Rattle.psy_arith.specs.declared.table.Row.{Row}

-- Each number is above the one before.
abbrev pub rises : List ℕ → Bool
rises [] = true
rises (n ∷ []) = true
rises (n ∷ m ∷ rest) = nat_lt n m && rises (m ∷ rest)

-- The bytes of the rows rise strictly, so that no two rows have one.
abbrev pub bytes_rise : List Row → Bool
bytes_rise rows = rises (map (λ r. r.byte) rows)

-- The first row with this byte; none where no row has it.
abbrev pub row_of : ℕ → List Row → Option Row
row_of byte rows = find (λ r. r.byte == byte) rows
