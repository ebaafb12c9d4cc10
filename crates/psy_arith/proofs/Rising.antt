-- Rows that are too few to fall rise.
use Rattle.std.proofs.Common.{◌≡◌, ◌<◌, true, List, [], ◌∷◌, length, refl, arith}
use Rattle.psy_arith.specs.declared.table.Row.{Row}
use Rattle.psy_arith.specs.Tables.{bytes_rise}

pub few_rise : (rows : List Row) → length rows < 2 → bytes_rise rows ≡ true
few_rise [] h = refl
few_rise (r ∷ []) h = refl
few_rise (r ∷ q ∷ rest) h = absurd (omega arith)
