-- How many instructions the code of each construct has: its size.
use Rattle.std.proofs.Common.{◌≡◌, ℕ, ◌+◌, List, [], ◌∷◌, map, length, refl, sym, ap, subst, ◌∙◌, arith, length-append}
use Rattle.std.specs.Prelude.{Some, None}
use Rattle.psy_arith.specs.declared.operators.Op2.{Op2}
use Rattle.psy_arith.specs.declared.operators.Op2.TheVariants as op
use Rattle.psy_arith.specs.declared.width.Width.{Width}
use Rattle.psy_code.specs.declared.instr.Instr.{Instr}
use Rattle.psy_code.specs.declared.instr.Instr.TheVariants as instr
use Rattle.psy_tree.specs.declared.unit.Expr.{Expr, roll-Expr, map-Expr, ind-Expr}
use Rattle.psy_tree.specs.declared.unit.Expr.TheOpen.{Expr-F}
use Rattle.psy_tree.specs.declared.unit.Stmt.{Stmt, roll-Stmt, map-Stmt, ind-Stmt}
use Rattle.psy_tree.specs.declared.unit.Stmt.TheOpen.{Stmt-F}
use Rattle.psy_tree.specs.Paths.{total}
use Rattle.psy_meaning.specs.Sizes.{binary_size, expr_size, expr_size_step, stmt_size, stmt_size_step, stmts_size}
use Rattle.psy_meaning.specs.Depths.{loops}
use Rattle.psy_gen.specs.Emission.{Layout, Operand, Part, expr_code, expr_code_step, lazy_code, binary_code, arguments_code, stmt_code, stmt_code_step, stmts_code, block_code, block_size, block_loops}
use Rattle.psy_build.proofs.Equations.{operand, part, code_roll, size_roll, stmt_roll, stmt_size_roll}

module _ (layout : Layout) where
  abbrev Measured : Expr → Type 0
  Measured e = (p : ℕ) → length (expr_code layout e p) ≡ expr_size e

  abbrev Known : Type 0
  Known = (e : Expr) × Measured e

  abbrev tree : Known → Expr
  tree k = k.0

  lazy_length : (test : ℕ → Instr) (l r : Known) (p : ℕ) → length (lazy_code test (operand layout l.0) (operand layout r.0) p) ≡ expr_size l.0 + (expr_size r.0 + 2)
  lazy_length test l r p =
      let middle = p + expr_size l.0 + 1 in
      simp length-append (omega (arith, l.1 p, r.1 middle))

  binary_length : (o : Op2) (w : Width) (l r : Known) (p : ℕ) → length (binary_code o w (operand layout l.0) (operand layout r.0) p) ≡ expr_size l.0 + (expr_size r.0 + binary_size o)
  binary_length op.AndAnd w l r p = lazy_length instr.AndTest l r p
  binary_length op.OrOr w l r p = lazy_length instr.OrTest l r p
  binary_length o w l r p = simp length-append (omega (arith, l.1 p, r.1 (p + expr_size l.0)))

  arguments_length : (ks : List Known) (behind : List Instr) (p : ℕ) → length (arguments_code (map (operand layout) (map tree ks)) behind p) ≡ total (map expr_size (map tree ks)) + length behind
  arguments_length [] behind p = omega arith
  arguments_length (k ∷ ks) behind p =
      omega (arith, length-append (expr_code layout k.0 p) (arguments_code (map (operand layout) (map tree ks)) behind (p + expr_size k.0)), k.1 p, arguments_length ks behind (p + expr_size k.0))

  step_length : (y : Expr-F Known) (p : ℕ) → length (expr_code_step layout (map-Expr Expr Operand (operand layout) (map-Expr Known Expr tree y)) p) ≡ expr_size_step (map-Expr Expr ℕ expr_size (map-Expr Known Expr tree y))
  step_length (Expr-F.Number number) p = refl
  step_length (Expr-F.Slot slot) p = refl
  step_length (Expr-F.Copy variable) p = refl
  step_length (Expr-F.Cell slot index) p = simp length-append (omega (arith, index.1 p))
  step_length (Expr-F.Past variable back) p = refl
  step_length (Expr-F.Ready stream) p = refl
  step_length (Expr-F.Take stream) p = refl
  step_length (Expr-F.Unary o w e) p = simp length-append (omega (arith, e.1 p))
  step_length (Expr-F.Cast w e) p = simp length-append (omega (arith, e.1 p))
  step_length (Expr-F.Binary o w l r) p = binary_length o w l r p
  step_length (Expr-F.Call function arguments) p = arguments_length arguments (instr.Call function ∷ []) p

  layer : (y : Expr-F Known) → Measured (roll-Expr (map-Expr Known Expr tree y))
  layer y p =
      let x : Expr-F Expr = map-Expr Known Expr tree y in
      ap length (code_roll layout x p) ∙ step_length y p ∙ sym (size_roll x)

  pub expr_length : (e : Expr) (p : ℕ) → length (expr_code layout e p) ≡ expr_size e
  expr_length = ind-Expr Measured (λ x y is. subst (λ z. Measured (roll-Expr z)) is (layer y))

  -- ---- statements

  abbrev Counted : Stmt → Type 0
  Counted s = (counter p : ℕ) → length (stmt_code layout s counter p) ≡ stmt_size s

  abbrev Seen : Type 0
  Seen = (s : Stmt) × Counted s

  abbrev text : Seen → Stmt
  text k = k.0

  block_length : (ks : List Seen) (counter p : ℕ) → length (block_code (map (part layout) (map text ks)) counter p) ≡ total (map stmt_size (map text ks))
  block_length [] counter p = refl
  block_length (k ∷ ks) counter p = simp length-append (omega (arith, k.1 counter p, block_length ks (counter + loops k.0) (p + stmt_size k.0)))

  step_counted : (y : Stmt-F Seen) (counter p : ℕ) → length (stmt_code_step layout (map-Stmt Stmt Part (part layout) (map-Stmt Seen Stmt text y)) counter p) ≡ stmt_size_step (map-Stmt Stmt ℕ stmt_size (map-Stmt Seen Stmt text y))
  step_counted (Stmt-F.Set slot value) counter p = simp length-append (omega (arith, expr_length value p))
  step_counted (Stmt-F.SetCopy variable value) counter p = simp length-append (omega (arith, expr_length value p))
  step_counted (Stmt-F.SetCell slot index value) counter p = simp length-append (omega (arith, expr_length index p, expr_length value (p + expr_size index)))
  step_counted (Stmt-F.If test branch None) counter p = simp length-append (omega (arith, expr_length test p, block_length branch counter (p + expr_size test + 1)))
  step_counted (Stmt-F.If test branch (Some other)) counter p =
      let parts = map (part layout) (map text branch) in
      let first = p + expr_size test + 1 in
      simp length-append (omega (arith, expr_length test p, block_length branch counter first, block_length other (counter + block_loops parts) (first + block_size parts + 1)))
  step_counted (Stmt-F.Bounded test most body) counter p = simp length-append (omega (arith, expr_length test (p + 1), block_length body (counter + 1) (p + 1 + expr_size test + 2)))
  step_counted (Stmt-F.Timed test body) counter p = simp length-append (omega (arith, expr_length test p, block_length body counter (p + expr_size test + 1)))
  step_counted (Stmt-F.Send value stream after clock) counter p = simp length-append (omega (arith, expr_length value p))
  step_counted (Stmt-F.Advance point) counter p = refl
  step_counted (Stmt-F.Return value) counter p = simp length-append (omega (arith, expr_length value p))

  stmt_layer : (y : Stmt-F Seen) → Counted (roll-Stmt (map-Stmt Seen Stmt text y))
  stmt_layer y counter p =
      let x : Stmt-F Stmt = map-Stmt Seen Stmt text y in
      ap length (stmt_roll layout x counter p) ∙ step_counted y counter p ∙ sym (stmt_size_roll x)

  pub stmt_length : (s : Stmt) (counter p : ℕ) → length (stmt_code layout s counter p) ≡ stmt_size s
  stmt_length = ind-Stmt Counted (λ x y is. subst (λ z. Counted (roll-Stmt z)) is (stmt_layer y))

  pub stmts_length : (ss : List Stmt) (counter p : ℕ) → length (stmts_code layout ss counter p) ≡ stmts_size ss
  stmts_length [] counter p = refl
  stmts_length (s ∷ ss) counter p =
      omega (arith, length-append (stmt_code layout s counter p) (stmts_code layout ss (counter + loops s) (p + stmt_size s)), stmt_length s counter p, stmts_length ss (counter + loops s) (p + stmt_size s))
