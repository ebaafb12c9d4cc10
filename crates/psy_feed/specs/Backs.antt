-- The variables at which a text looks back by at least so many of their dates.
use Rattle.std.specs.Prelude.{ℕ, nat_le, if◌then◌else◌, List, [], ◌∷◌, ◌++◌, map, Some, None}
use Rattle.psy_tree.specs.declared.unit.Expr.{Expr, fold-Expr}
use Rattle.psy_tree.specs.declared.unit.Expr.TheOpen.{Expr-F}
use Rattle.psy_tree.specs.declared.unit.Stmt.{Stmt, fold-Stmt}
use Rattle.psy_tree.specs.declared.unit.Stmt.TheOpen.{Stmt-F}
use Rattle.psy_history.specs.Feeding.{all_pasts}

-- The variables at which an expression looks so far back, once those of its parts are known
abbrev pub expr_backs_step : ℕ → Expr-F (List ℕ) → List ℕ
expr_backs_step least (Expr-F.Past variable back) = if nat_le least back then variable ∷ [] else []
expr_backs_step least (Expr-F.Cell slot index) = index
expr_backs_step least (Expr-F.Unary operator width operand) = operand
expr_backs_step least (Expr-F.Binary operator width left right) = left ++ right
expr_backs_step least (Expr-F.Cast width operand) = operand
expr_backs_step least (Expr-F.Call function arguments) = all_pasts arguments
expr_backs_step least _ = []

-- The variables at which an expression looks so far back
abbrev pub expr_backs : ℕ → Expr → List ℕ
expr_backs least = fold-Expr (List ℕ) (expr_backs_step least)

-- The variables at which a statement does, once those of its parts are known
abbrev pub stmt_backs_step : ℕ → Stmt-F (List ℕ) → List ℕ
stmt_backs_step least (Stmt-F.Set slot value) = expr_backs least value
stmt_backs_step least (Stmt-F.SetCopy variable value) = expr_backs least value
stmt_backs_step least (Stmt-F.SetCell slot index value) = expr_backs least index ++ expr_backs least value
stmt_backs_step least (Stmt-F.If test branch None) = expr_backs least test ++ all_pasts branch
stmt_backs_step least (Stmt-F.If test branch (Some other)) = expr_backs least test ++ (all_pasts branch ++ all_pasts other)
stmt_backs_step least (Stmt-F.Bounded test most body) = expr_backs least test ++ all_pasts body
stmt_backs_step least (Stmt-F.Timed test body) = expr_backs least test ++ all_pasts body
stmt_backs_step least (Stmt-F.Send value stream after clock) = expr_backs least value
stmt_backs_step least (Stmt-F.Advance point) = []
stmt_backs_step least (Stmt-F.Return value) = expr_backs least value

-- The variables at which a statement does
abbrev pub stmt_backs : ℕ → Stmt → List ℕ
stmt_backs least = fold-Stmt (List ℕ) (stmt_backs_step least)

-- The variables at which statements do
abbrev pub backs_in : ℕ → List Stmt → List ℕ
backs_in least stmts = all_pasts (map (stmt_backs least) stmts)
