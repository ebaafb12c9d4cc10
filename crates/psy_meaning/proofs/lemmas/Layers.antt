-- The ways of a layer depend on its parts only through theirs.
use Rattle.std.proofs.Common.{◌≡◌, refl, ap, ◌∙◌}
use Rattle.std.specs.Prelude.{ℕ, List, [], ◌∷◌, map, Some, None}
use Rattle.psy_tree.specs.declared.unit.Expr.{Expr, map-Expr}
use Rattle.psy_tree.specs.declared.unit.Expr.TheOpen.{Expr-F}
use Rattle.psy_tree.specs.declared.unit.Stmt.{Stmt, map-Stmt}
use Rattle.psy_tree.specs.declared.unit.Stmt.TheOpen.{Stmt-F}
use Rattle.psy_meaning.specs.Ways.{Way, Course, here, one, both, falling, behind, and_on, or_else, ways_through, courses_through, turning, expr_way_step, expr_way, course_step}

through-map : {X : Type 0} (v : X → Expr) (k : Expr → Way) (xs : List X) → ways_through (λ x. k (v x)) xs ≡ ways_through k (map v xs)
through-map v k [] = refl
through-map v k (x ∷ xs) = ap (both (k (v x))) (through-map v k xs)

pub natural_expr : (ways : ℕ → Way) (X : Type 0) (v : X → Expr) (k : Expr → Way) (x : Expr-F X) → expr_way_step ways X v (λ p. k (v p)) x ≡ expr_way_step ways Expr (λ y. y) k (map-Expr X Expr v x)
natural_expr ways X v k (Expr-F.Number number) = refl
natural_expr ways X v k (Expr-F.Slot slot) = refl
natural_expr ways X v k (Expr-F.Copy variable) = refl
natural_expr ways X v k (Expr-F.Cell slot index) = refl
natural_expr ways X v k (Expr-F.Past variable back) = refl
natural_expr ways X v k (Expr-F.Ready stream) = refl
natural_expr ways X v k (Expr-F.Take stream) = refl
natural_expr ways X v k (Expr-F.Unary operator width operand) = refl
natural_expr ways X v k (Expr-F.Binary operator width left right) = refl
natural_expr ways X v k (Expr-F.Cast width operand) = refl
natural_expr ways X v k (Expr-F.Call function arguments) = ap (λ w. both w (both one (ways function))) (through-map v k arguments)

courses-map : {X : Type 0} (v : X → Stmt) (k : Stmt → Course) (xs : List X) → courses_through (λ x. k (v x)) xs ≡ courses_through k (map v xs)
courses-map v k [] = refl
courses-map v k (x ∷ xs) = ap (and_on (k (v x))) (courses-map v k xs)

pub natural_stmt : (ways : ℕ → Way) (X : Type 0) (v : X → Stmt) (k : Stmt → Course) (x : Stmt-F X) → course_step ways X v (λ p. k (v p)) x ≡ course_step ways Stmt (λ y. y) k (map-Stmt X Stmt v x)
natural_stmt ways X v k (Stmt-F.Set slot value) = refl
natural_stmt ways X v k (Stmt-F.SetCopy variable value) = refl
natural_stmt ways X v k (Stmt-F.SetCell slot index value) = refl
natural_stmt ways X v k (Stmt-F.If test branch None) = ap (λ c. behind (both (expr_way ways test) one) (or_else c (falling here))) (courses-map v k branch)
natural_stmt ways X v k (Stmt-F.If test branch (Some other)) =
    ap (λ c. behind (both (expr_way ways test) one) (or_else (and_on c (falling one)) (courses_through (λ x. k (v x)) other))) (courses-map v k branch)
    ∙ ap (λ c. behind (both (expr_way ways test) one) (or_else (and_on (courses_through k (map v branch)) (falling one)) c)) (courses-map v k other)
natural_stmt ways X v k (Stmt-F.Bounded test most body) = ap (λ c. behind one (turning most (expr_way ways test) c)) (courses-map v k body)
natural_stmt ways X v k (Stmt-F.Timed test body) = ap (λ c. behind (both (expr_way ways test) one) (or_else c (falling here))) (courses-map v k body)
natural_stmt ways X v k (Stmt-F.Send value stream after clock) = refl
natural_stmt ways X v k (Stmt-F.Advance point) = refl
natural_stmt ways X v k (Stmt-F.Return value) = refl
