-- The variables at which a text looks, and the streams to which it sends, in the order of the text.
use Rattle.std.specs.Prelude.{ℕ, nat_eq, Bool, List, [], ◌∷◌, ◌++◌, map, Some, None}
use Rattle.std.specs.List.{flat_map}
use Rattle.psy_tree.specs.declared.unit.Expr.{Expr, fold-Expr}
use Rattle.psy_tree.specs.declared.unit.Expr.TheOpen.{Expr-F}
use Rattle.psy_tree.specs.declared.unit.Stmt.{Stmt, fold-Stmt}
use Rattle.psy_tree.specs.declared.unit.Stmt.TheOpen.{Stmt-F}
use Rattle.psy_meaning.specs.Sendings.{sendings_in, sendings_of}
use Rattle.psy_meaning.specs.Ways.{Sending}
use Rattle.psy_flow.specs.Reach.{marked}

-- ---- looks

-- Lists one behind the other
abbrev pub joined : List (List ℕ) → List ℕ
joined = flat_map (λ numbers. numbers)

-- The variables at which an expression looks, once those of its parts are known
abbrev pub expr_looks_step : Expr-F (List ℕ) → List ℕ
expr_looks_step (Expr-F.Past variable back) = variable ∷ []
expr_looks_step (Expr-F.Cell slot index) = index
expr_looks_step (Expr-F.Unary operator width operand) = operand
expr_looks_step (Expr-F.Cast width operand) = operand
expr_looks_step (Expr-F.Binary operator width left right) = left ++ right
expr_looks_step (Expr-F.Call function arguments) = joined arguments
expr_looks_step _ = []

-- The variables at which an expression looks
abbrev pub expr_looks : Expr → List ℕ
expr_looks = fold-Expr (List ℕ) expr_looks_step

-- The variables at which a statement looks, once those of its parts are known
abbrev pub stmt_looks_step : Stmt-F (List ℕ) → List ℕ
stmt_looks_step (Stmt-F.Set slot value) = expr_looks value
stmt_looks_step (Stmt-F.SetCopy variable value) = expr_looks value
stmt_looks_step (Stmt-F.SetCell slot index value) = expr_looks index ++ expr_looks value
stmt_looks_step (Stmt-F.If test branch None) = expr_looks test ++ joined branch
stmt_looks_step (Stmt-F.If test branch (Some other)) = expr_looks test ++ (joined branch ++ joined other)
stmt_looks_step (Stmt-F.Bounded test most body) = expr_looks test ++ joined body
stmt_looks_step (Stmt-F.Timed test body) = expr_looks test ++ joined body
stmt_looks_step (Stmt-F.Send value stream after clock) = expr_looks value
stmt_looks_step (Stmt-F.Advance point) = []
stmt_looks_step (Stmt-F.Return value) = expr_looks value

-- The variables at which a statement looks
abbrev pub stmt_looks : Stmt → List ℕ
stmt_looks = fold-Stmt (List ℕ) stmt_looks_step

-- The variables at which statements look
abbrev pub looks_in : List Stmt → List ℕ
looks_in stmts = joined (map stmt_looks stmts)

-- ---- sends

-- The streams to which a statement sends
abbrev pub stmt_streams : Stmt → List ℕ
stmt_streams stmt = map (λ (s : Sending). s.stream) (sendings_of stmt)

-- The streams to which statements send
abbrev pub streams_in : List Stmt → List ℕ
streams_in stmts = map (λ (s : Sending). s.stream) (sendings_in stmts)

-- ---- marks

-- Marks with those of these numbers beside
abbrev pub marked_at : List Bool → List ℕ → List Bool
marked_at marks [] = marks
marked_at marks (number ∷ more) = marked_at (marked marks (λ q. nat_eq number q)) more
