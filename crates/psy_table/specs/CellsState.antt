-- What contracts see of cells.
use Rattle.std.specs.Prelude.{ℕ, List, map}

-- Names, and a text for each
pub record CellsState : Type 0 where
  pub names : List (List ℕ)
  pub texts : List (List ℕ)

-- Cells whose texts are made of their names
abbrev pub cells_of : (List ℕ → List ℕ) → List (List ℕ) → CellsState
cells_of f names = record { names = names; texts = map f names }
