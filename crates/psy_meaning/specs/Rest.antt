-- What is left of an agent's body behind each of its points.
use Rattle.std.specs.Prelude.{ℕ, zero, suc, List, [], ◌∷◌, ◌++◌, map, Some, None, slice_index_or}
use Rattle.psy_tree.specs.declared.unit.Stmt.{Stmt, para-Stmt, roll-Stmt}
use Rattle.psy_tree.specs.declared.unit.Stmt.TheOpen.{Stmt-F}
use Rattle.psy_meaning.specs.Statements.{Piece, Do, Hop}

-- By `advance` of a statement, in order, the pieces behind it within the statement.
abbrev pub Rests : Type 0
Rests = List (List Piece)

-- Each of the rests, and these pieces behind it
abbrev pub each_then : Rests → List Piece → Rests
each_then rests pieces = map (λ r. r ++ pieces) rests

-- The statements as pieces.
abbrev pub pieces_of : List Stmt → List Piece
pieces_of stmts = map Do stmts

-- A statement with its own rests
abbrev pub Part : Type 0
Part = Stmt × Rests

-- The statements of these parts.
abbrev pub stmts_in : List Part → List Stmt
stmts_in parts = map (λ p. p.0) parts

-- Behind an `advance` of a list stand the pieces behind it in its statement, and the statements after.
abbrev pub rests_in : List Part → Rests
rests_in [] = []
rests_in (p ∷ rest) = each_then p.1 (pieces_of (stmts_in rest)) ++ rests_in rest

-- A jump follows a first branch that has a second; a jump and the loop itself follow a turn of a loop.
abbrev pub rests_step : Stmt-F Part → Rests
rests_step (Stmt-F.Advance point) = [] ∷ []
rests_step (Stmt-F.If test branch None) = rests_in branch
rests_step (Stmt-F.If test branch (Some other)) = each_then (rests_in branch) (Hop ∷ []) ++ rests_in other
rests_step (Stmt-F.Timed test body) = each_then (rests_in body) (Hop ∷ Do (roll-Stmt (Stmt-F.Timed test (stmts_in body))) ∷ [])
rests_step (Stmt-F.Bounded test most body) = rests_in body
rests_step _ = []

-- The rests behind the `advance` statements in a statement.
abbrev pub rests_of : Stmt → Rests
rests_of = para-Stmt Rests rests_step

-- A statement beside its rests.
abbrev pub with_rests : Stmt → Part
with_rests stmt = (stmt, rests_of stmt)

-- The rests behind each `advance` of statements
abbrev pub rests_of_list : List Stmt → Rests
rests_of_list stmts = rests_in (map with_rests stmts)

-- The rest behind a point: the body for point 0, and else what is behind that `advance`, a jump, and
-- the body again.
abbrev pub rest : List Stmt → ℕ → List Piece
rest body zero = pieces_of body
rest body (suc n) = slice_index_or (rests_of_list body) n [] ++ (Hop ∷ pieces_of body)
