-- Which points ways reach first, as marks by number.
use Rattle.std.specs.Prelude.{◌≡◌, ℕ, ◌+◌, ◌<◌, Bool, ◌||◌, if◌then◌else◌, List, [], ◌∷◌, length, Some, None, is_some, slice_index_or}
use Rattle.psy_tree.specs.declared.unit.Stmt.{Stmt}
use Rattle.psy_meaning.specs.Rest.{Rests}
use Rattle.psy_meaning.specs.Statements.{Piece}
use Rattle.psy_flow.specs.declared.gauge.Gauge.TheVariants as gauge
use Rattle.psy_flow.specs.declared.reach.Reached.{Reached}
use Rattle.psy_flow.specs.declared.reach.Reached.TheVariants as reached
use Rattle.psy_flow.specs.Tops.{called, stmt_tops, stmts_tops, pieces_tops}

-- A way falls through the statement.
abbrev pub falls : Stmt → Bool
falls stmt = is_some (stmt_tops gauge.Steps None (called []) stmt).fell

-- A way through the statement goes to the point.
abbrev pub reaches : Stmt → ℕ → Bool
reaches stmt point = is_some (stmt_tops gauge.Steps (Some point) (called []) stmt).to

-- A way falls through the statements.
abbrev pub all_fall : List Stmt → Bool
all_fall stmts = is_some (stmts_tops gauge.Steps None (called []) stmts).fell

-- A way through the statements goes to the point.
abbrev pub some_reaches : List Stmt → ℕ → Bool
some_reaches stmts point = is_some (stmts_tops gauge.Steps (Some point) (called []) stmts).to

-- A way falls through the pieces.
abbrev pub pieces_fall : List Piece → Bool
pieces_fall pieces = is_some (pieces_tops gauge.Steps None (called []) pieces).fell

-- A way through the pieces goes to the point.
abbrev pub pieces_reach : List Piece → ℕ → Bool
pieces_reach pieces point = is_some (pieces_tops gauge.Steps (Some point) (called []) pieces).to

-- Marks, counted from a number on, with these beside
abbrev pub marked_from : ℕ → List Bool → (ℕ → Bool) → List Bool
marked_from n [] also = []
marked_from n (m ∷ marks) also = (m || also n) ∷ marked_from (n + 1) marks also

-- Marks with these beside
abbrev pub marked : List Bool → (ℕ → Bool) → List Bool
marked marks also = marked_from 0 marks also

-- The numbers of marks that are set, counted from a number on
abbrev pub numbers_from : ℕ → List Bool → List ℕ
numbers_from n [] = []
numbers_from n (m ∷ marks) = if m then n ∷ numbers_from (n + 1) marks else numbers_from (n + 1) marks

-- The numbers of marks that are set
abbrev pub numbers_of : List Bool → List ℕ
numbers_of marks = numbers_from 0 marks

-- Found is whether the rest of this number falls through, and the points that it reaches are marked. Further on there is
-- what these rests leave of the number.
abbrev pub IsReached : Rests → ℕ → List Bool → List Bool → Reached → Type 0
IsReached rests number before after (reached.Found falling) =
    let pieces = slice_index_or rests number [] in
    (number < length rests) × (falling ≡ pieces_fall pieces) × (after ≡ marked before (pieces_reach pieces))
IsReached rests number before after (reached.Further left) = (number ≡ length rests + left) × (after ≡ before)
