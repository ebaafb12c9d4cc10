-- Looks that go back by at least 0 dates are all looks.
use Rattle.std.proofs.Common.{◌≡◌, ℕ, List, ◌++◌, ◌∷◌, [], map, Some, None, refl, ap, ap₂, arith}
use Rattle.std.specs.Prelude.{if◌then◌else◌}
use Rattle.std.proofs.lemmas.Bool.{le-leb}
use Rattle.psy_tree.specs.declared.unit.Expr.{Expr, fold-Expr}
use Rattle.psy_tree.specs.declared.unit.Expr.TheOpen.{Expr-F}
use Rattle.psy_tree.specs.declared.unit.Stmt.{Stmt, fold-Stmt}
use Rattle.psy_tree.specs.declared.unit.Stmt.TheOpen.{Stmt-F}
use Rattle.psy_history.specs.Feeding.{all_pasts, expr_pasts, expr_pasts_step, pasts_in, stmt_pasts, stmt_pasts_step}
use Rattle.psy_feed.specs.Backs.{backs_in, expr_backs, expr_backs_step, stmt_backs, stmt_backs_step}

in_step : (x : Expr-F (List ℕ)) → expr_backs_step 0 x ≡ expr_pasts_step x
in_step (Expr-F.Past variable back) = ap (λ so. if so then variable ∷ [] else []) (le-leb 0 back (omega arith))
in_step (Expr-F.Number number) = refl
in_step (Expr-F.Slot slot) = refl
in_step (Expr-F.Copy variable) = refl
in_step (Expr-F.Cell slot index) = refl
in_step (Expr-F.Ready stream) = refl
in_step (Expr-F.Take stream) = refl
in_step (Expr-F.Unary operator width operand) = refl
in_step (Expr-F.Binary operator width left right) = refl
in_step (Expr-F.Cast width operand) = refl
in_step (Expr-F.Call function arguments) = refl

in_expr : (e : Expr) → expr_backs 0 e ≡ expr_pasts e
in_expr e = ap (λ (step : Expr-F (List ℕ) → List ℕ). fold-Expr (List ℕ) step e) (λ i x. in_step x i)

in_stmt_step : (x : Stmt-F (List ℕ)) → stmt_backs_step 0 x ≡ stmt_pasts_step x
in_stmt_step (Stmt-F.Set slot value) = in_expr value
in_stmt_step (Stmt-F.SetCopy variable value) = in_expr value
in_stmt_step (Stmt-F.SetCell slot index value) = ap₂ (λ (xs ys : List ℕ). xs ++ ys) (in_expr index) (in_expr value)
in_stmt_step (Stmt-F.If test branch None) = ap (λ xs. xs ++ all_pasts branch) (in_expr test)
in_stmt_step (Stmt-F.If test branch (Some other)) = ap (λ xs. xs ++ (all_pasts branch ++ all_pasts other)) (in_expr test)
in_stmt_step (Stmt-F.Bounded test most body) = ap (λ xs. xs ++ all_pasts body) (in_expr test)
in_stmt_step (Stmt-F.Timed test body) = ap (λ xs. xs ++ all_pasts body) (in_expr test)
in_stmt_step (Stmt-F.Send value stream after clock) = in_expr value
in_stmt_step (Stmt-F.Advance point) = refl
in_stmt_step (Stmt-F.Return value) = in_expr value

in_stmt : (s : Stmt) → stmt_backs 0 s ≡ stmt_pasts s
in_stmt s = ap (λ (step : Stmt-F (List ℕ) → List ℕ). fold-Stmt (List ℕ) step s) (λ i x. in_stmt_step x i)

pub any_backs : (stmts : List Stmt) → backs_in 0 stmts ≡ pasts_in stmts
any_backs stmts = ap (λ (given : Stmt → List ℕ). all_pasts (map given stmts)) (λ i s. in_stmt s i)
