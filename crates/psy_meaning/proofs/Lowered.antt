-- The size of what each kind of expression and statement is lowered to, whatever the site and the points before; each narrowing may add one.
use Rattle.std.proofs.Common.{◌≡◌, ℕ, ◌+◌, ◌≤◌, Bool, true, false, List, ◌∷◌, map, Option, Some, None, sym, ap, ◌∙◌, arith}
use Rattle.std.specs.Prelude.{if◌then◌else◌}
use Rattle.psy_arith.specs.declared.operators.Op1.{Op1}
use Rattle.psy_arith.specs.declared.operators.Op2.{Op2}
use Rattle.psy_arith.specs.declared.width.Width.{Width}
use Rattle.psy_arith.specs.declared.width.Width.TheVariants.{W32}
use Rattle.psy_arith.specs.Widths.{is_narrower}
use Rattle.psy_tree.specs.declared.raw.Name.{Name}
use Rattle.psy_tree.specs.declared.raw.Lit.{Lit}
use Rattle.psy_tree.specs.declared.raw.RawExpr.{RawExpr, roll-RawExpr, map-RawExpr, fold-roll-RawExpr}
use Rattle.psy_tree.specs.declared.raw.RawExpr.TheVariants as expr
use Rattle.psy_tree.specs.declared.raw.RawExpr.TheOpen.{RawExpr-F}
use Rattle.psy_tree.specs.declared.raw.RawStmt.{RawStmt, roll-RawStmt, map-RawStmt, fold-roll-RawStmt}
use Rattle.psy_tree.specs.declared.raw.RawStmt.TheVariants as stmt
use Rattle.psy_tree.specs.declared.raw.RawStmt.TheOpen.{RawStmt-F}
use Rattle.psy_tree.specs.declared.reach.Found.{Found}
use Rattle.psy_tree.specs.declared.reach.Found.TheVariants as found
use Rattle.psy_tree.specs.declared.unit.Expr.{Expr, roll-Expr, map-Expr, fold-roll-Expr}
use Rattle.psy_tree.specs.declared.unit.Expr.TheOpen.{Expr-F}
use Rattle.psy_tree.specs.declared.unit.Stmt.{Stmt, roll-Stmt, map-Stmt, fold-roll-Stmt}
use Rattle.psy_tree.specs.declared.unit.Stmt.TheOpen.{Stmt-F}
use Rattle.psy_tree.specs.declared.unit.Point.{Point}
use Rattle.psy_tree.specs.Scope.{Site, stands_for}
use Rattle.psy_tree.specs.Stands.{Numbering, Typed, into, typed_of, expr_of, expr_into, expr_step, value_of, width_at, stmt_of, stmt_step, stmts_of, set_by}
use Rattle.psy_tree.specs.Paths.{total}
use Rattle.psy_meaning.specs.Sizes.{binary_size, expr_size_step, expr_size, stmt_size_step, stmt_size, stmts_size}

expr_rolled : (x : Expr-F Expr) → expr_size (roll-Expr x) ≡ expr_size_step (map-Expr Expr ℕ expr_size x)
expr_rolled x = fold-roll-Expr ℕ expr_size_step x

stmt_rolled : (x : Stmt-F Stmt) → stmt_size (roll-Stmt x) ≡ stmt_size_step (map-Stmt Stmt ℕ stmt_size x)
stmt_rolled x = fold-roll-Stmt ℕ stmt_size_step x

-- Where a value of a type goes, the expression is one more at most.
size_into : (width : Width) (t : Typed) → expr_size (into width t) ≤ expr_size t.expr + 1
size_into width t = by (is_narrower width t.width)
  where
    by : (b : Bool) → expr_size (if b then roll-Expr (Expr-F.Cast width t.expr) else t.expr) ≤ expr_size t.expr + 1
    by true = omega (arith, expr_rolled (Expr-F.Cast width t.expr))
    by false = omega arith

module _ (site : Site) where
  -- ---- expressions

  abbrev pub size : RawExpr → ℕ
  size e = expr_size (expr_of site e)

  abbrev pub sizes : List RawExpr → ℕ
  sizes es = total (map expr_size (map (into W32) (map (typed_of site) es)))

  pub sizes-cons : (e : RawExpr) (es : List RawExpr) → sizes (e ∷ es) ≤ size e + 1 + sizes es
  sizes-cons e es = omega (arith, size_into W32 (typed_of site e))

  lowered : (e : RawExpr) (x : RawExpr-F RawExpr) → roll-RawExpr x ≡ e → size e ≡ expr_size (expr_step site (map-RawExpr RawExpr Typed (typed_of site) x)).expr
  lowered e x is = ap size (sym is) ∙ ap (λ (t : Typed). expr_size t.expr) (fold-roll-RawExpr Typed (expr_step site) x)

  pub size_number : (k : Lit) → size (expr.Number k) ≡ 1
  size_number k = lowered _ (RawExpr-F.Number k) (expr.rolls-Number k) ∙ expr_rolled _

  size_value : (f : Option Found) → expr_size (value_of site f) ≡ 1
  size_value (Some (found.Item k)) = expr_rolled _
  size_value (Some (found.Slot k)) = expr_rolled _
  size_value None = expr_rolled _

  pub size_var : (x : Name) → size (expr.Var x) ≡ 1
  size_var x = lowered _ (RawExpr-F.Var x) (expr.rolls-Var x) ∙ size_value (stands_for site x.text)

  pub size_cell : (x : Name) (index : RawExpr) → size (expr.Cell x index) ≡ size index + 1
  size_cell x index = lowered _ (RawExpr-F.Cell x index) (expr.rolls-Cell x index) ∙ expr_rolled _

  pub size_past : (n : ℕ) (x : Name) (back : Lit) → size (expr.Past n x back) ≡ 1
  size_past n x back = lowered _ (RawExpr-F.Past n x back) (expr.rolls-Past n x back) ∙ expr_rolled _

  pub size_ready : (n : ℕ) (x : Name) → size (expr.Ready n x) ≡ 1
  size_ready n x = lowered _ (RawExpr-F.Ready n x) (expr.rolls-Ready n x) ∙ expr_rolled _

  pub size_take : (n : ℕ) (x : Name) → size (expr.Take n x) ≡ 1
  size_take n x = lowered _ (RawExpr-F.Take n x) (expr.rolls-Take n x) ∙ expr_rolled _

  pub size_unary : (o : Op1) (e : RawExpr) → size (expr.Unary o e) ≡ size e + 1
  size_unary o e = lowered _ (RawExpr-F.Unary o e) (expr.rolls-Unary o e) ∙ expr_rolled _

  pub size_binary : (o : Op2) (l r : RawExpr) → size (expr.Binary o l r) ≡ size l + (size r + binary_size o)
  size_binary o l r = lowered _ (RawExpr-F.Binary o l r) (expr.rolls-Binary o l r) ∙ expr_rolled _

  pub size_cast : (width : Width) (e : RawExpr) → size (expr.Cast width e) ≤ size e + 1
  size_cast width e = omega (arith, lowered _ (RawExpr-F.Cast width e) (expr.rolls-Cast width e), size_into width (typed_of site e))

  pub size_call : (f : Name) (es : List RawExpr) → size (expr.Call f es) ≡ sizes es + 1
  size_call f es = lowered _ (RawExpr-F.Call f es) (expr.rolls-Call f es) ∙ expr_rolled _

  -- ---- statements

  abbrev pub weight : RawStmt → List Point → ℕ
  weight s points = stmt_size (stmt_of site s points).0

  abbrev pub weights : List RawStmt → List Point → ℕ
  weights body points = stmts_size (stmts_of site body points).0

  numbered : (s : RawStmt) (x : RawStmt-F RawStmt) (points : List Point) → roll-RawStmt x ≡ s → weight s points ≡ stmt_size (stmt_step site (map-RawStmt RawStmt (Numbering Stmt) (stmt_of site) x) points).0
  numbered s x points is = ap (λ z. weight z points) (sym is) ∙ ap (λ (n : Numbering Stmt). stmt_size (n points).0) (fold-roll-RawStmt (Numbering Stmt) (stmt_step site) x)

  size_set_by : (f : Option Found) (value : Expr) → stmt_size (set_by site f value) ≡ expr_size value + 1
  size_set_by (Some (found.Item k)) value = stmt_rolled _
  size_set_by (Some (found.Slot k)) value = stmt_rolled _
  size_set_by None value = stmt_rolled _

  pub size_set : (x : Name) (e : RawExpr) (points : List Point) → weight (stmt.Set x e) points ≤ size e + 2
  size_set x e points =
      let width = width_at site (stands_for site x.text) in
      omega (arith, numbered _ (RawStmt-F.Set x e) points (stmt.rolls-Set x e), size_set_by (stands_for site x.text) (expr_into site width e), size_into width (typed_of site e))

  pub size_set_cell : (x : Name) (index e : RawExpr) (points : List Point) → weight (stmt.SetCell x index e) points ≤ size index + (size e + 2)
  size_set_cell x index e points =
      let stored = expr_into site (width_at site (stands_for site x.text)) e in
      let step : weight (stmt.SetCell x index e) points ≡ size index + (expr_size stored + 1) = numbered _ (RawStmt-F.SetCell x index e) points (stmt.rolls-SetCell x index e) ∙ stmt_rolled _ in
      omega (arith, step, size_into (width_at site (stands_for site x.text)) (typed_of site e))

  pub size_if : (test : RawExpr) (body : List RawStmt) (points : List Point) → weight (stmt.If test body None) points ≡ size test + 1 + (weights body points + 0)
  size_if test body points = numbered _ (RawStmt-F.If test body None) points (stmt.rolls-If test body None) ∙ stmt_rolled _

  pub size_if_else : (test : RawExpr) (body other : List RawStmt) (points : List Point) →
      weight (stmt.If test body (Some other)) points ≡ size test + 1 + (weights body points + (weights other (stmts_of site body points).1 + 1))
  size_if_else test body other points = numbered _ (RawStmt-F.If test body (Some other)) points (stmt.rolls-If test body (Some other)) ∙ stmt_rolled _

  pub size_timed : (n : ℕ) (test : RawExpr) (body : List RawStmt) (points : List Point) → weight (stmt.While n test None body) points ≡ size test + 2 + weights body points
  size_timed n test body points = numbered _ (RawStmt-F.While n test None body) points (stmt.rolls-While n test None body) ∙ stmt_rolled _

  pub size_bounded : (n : ℕ) (test : RawExpr) (most : Lit) (body : List RawStmt) (points : List Point) → weight (stmt.While n test (Some most) body) points ≡ size test + 4 + weights body points
  size_bounded n test most body points = numbered _ (RawStmt-F.While n test (Some most) body) points (stmt.rolls-While n test (Some most) body) ∙ stmt_rolled _

  pub size_send : (n : ℕ) (e : RawExpr) (stream : Name) (after : Lit) (clock : Name) (points : List Point) → weight (stmt.Send n e stream after clock) points ≤ size e + 2
  size_send n e stream after clock points =
      let step : weight (stmt.Send n e stream after clock) points ≡ expr_size (expr_into site W32 e) + 1 =
      numbered _ (RawStmt-F.Send n e stream after clock) points (stmt.rolls-Send n e stream after clock) ∙ stmt_rolled _ in
      omega (arith, step, size_into W32 (typed_of site e))

  pub size_advance : (n : ℕ) (count : Lit) (clock : Name) (budget : Option Lit) (points : List Point) → weight (stmt.Advance n count clock budget) points ≡ 1
  size_advance n count clock budget points = numbered _ (RawStmt-F.Advance n count clock budget) points (stmt.rolls-Advance n count clock budget) ∙ stmt_rolled _

  pub size_return : (n : ℕ) (e : RawExpr) (points : List Point) → weight (stmt.Return n e) points ≤ size e + 2
  size_return n e points =
      let step : weight (stmt.Return n e) points ≡ expr_size (expr_into site W32 e) + 1 = numbered _ (RawStmt-F.Return n e) points (stmt.rolls-Return n e) ∙ stmt_rolled _ in
      omega (arith, step, size_into W32 (typed_of site e))
