-- What contracts see of files that are cut into pieces.
use Rattle.std.specs.Prelude.{ℕ, List}

-- A shelf, what is left of the file that was begun, of which one call gives at most `most` bytes, and the numbers of the calls for a piece that fail
pub record ShelfReelState (F : Type 0) : Type 0 where
  pub shelf : F
  pub left : List ℕ
  pub most : ℕ
  pub fails : List ℕ
  pub calls : ℕ
  pub faults : ℕ
