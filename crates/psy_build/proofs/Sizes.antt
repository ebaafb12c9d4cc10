-- What is held is bounded by the size of what holds it, beside what the functions hold.
use Rattle.std.proofs.Common.{ℕ, zero, suc, ◌+◌, ◌≤◌, List, [], ◌∷◌, map, Some, None, slice_index_or, sym, subst, arith}
use Rattle.psy_arith.specs.declared.operators.Op2.{Op2}
use Rattle.psy_arith.specs.declared.operators.Op2.TheVariants as op
use Rattle.psy_tree.specs.declared.unit.Expr.{Expr, roll-Expr, fold-roll-Expr, map-Expr, ind-Expr}
use Rattle.psy_tree.specs.declared.unit.Expr.TheOpen.{Expr-F}
use Rattle.psy_tree.specs.declared.unit.Stmt.{Stmt, roll-Stmt, fold-roll-Stmt, map-Stmt, ind-Stmt}
use Rattle.psy_tree.specs.declared.unit.Stmt.TheOpen.{Stmt-F}
use Rattle.psy_tree.specs.Paths.{total}
use Rattle.psy_meaning.specs.Sizes.{binary_size, expr_size_step, expr_size, stmt_size_step, stmt_size, stmts_size}
use Rattle.psy_meaning.specs.Depths.{Depth, shallow, deepest, stacked, binary_depth, expr_depth_step, expr_depth, stmt_depth_step, stmt_depth, stmts_depth, loops_step, loops, loops_in}

-- Neither number is greater.
pub record Below (most d : Depth) : Type 0 where
  pub operands : d.operands ≤ most.operands
  pub cells : d.cells ≤ most.cells

-- The operands are at most the size, and the functions' on top of these.
pub record Bounded (most d : Depth) (size : ℕ) : Type 0 where
  pub operands : d.operands ≤ size + most.operands
  pub cells : d.cells ≤ most.cells

pub below_at : (most : Depth) (ds : List Depth) (i : ℕ) → Below most (deepest ds) → Below most (slice_index_or ds i shallow)
below_at most [] i b = b
below_at most (d ∷ ds) zero b = record { operands = omega arith; cells = omega arith }
below_at most (d ∷ ds) (suc i) b = below_at most ds i (record { operands = omega arith; cells = omega arith })

module _ (functions : List Depth) (most : Depth) (below : Below most (deepest functions)) where
  abbrev depth : Expr → Depth
  depth = expr_depth functions

  -- ---- expressions

  record Sized (d : Depth) (size : ℕ) : Type 0 where
    pub bounded : Bounded most d size
    pub some : 1 ≤ size

  abbrev P : Expr → Type 0
  P e = Sized (depth e) (expr_size e)

  abbrev Known : Type 0
  Known = (e : Expr) × P e

  abbrev tree : Known → Expr
  tree k = k.0

  one : (d : Depth) (size : ℕ) → d.operands ≤ 1 → d.cells ≤ 0 → 1 ≤ size → Sized d size
  one d size p q r = record { bounded = record { operands = omega arith; cells = omega arith }; some = r }

  stacked_bounded : (n : ℕ) (ks : List Known) → Bounded most (stacked n (map depth (map tree ks))) (n + total (map expr_size (map tree ks)))
  stacked_bounded n [] = record { operands = omega arith; cells = omega arith }
  stacked_bounded n (k ∷ ks) =
      let first : P k.0 = k.1 in
      let rest = stacked_bounded (n + 1) ks in
      record { operands = omega (arith, first.bounded.operands, first.some, rest.operands); cells = omega (arith, first.bounded.cells, rest.cells) }

  binary_sized : (operator : Op2) (l r : Depth) (m n : ℕ) → Sized l m → Sized r n → Sized (binary_depth operator l r) (m + (n + binary_size operator))
  binary_sized op.AndAnd l r m n p q = record { bounded = record { operands = omega (arith, p.bounded.operands, q.bounded.operands); cells = omega (arith, p.bounded.cells, q.bounded.cells) }; some = omega arith }
  binary_sized op.OrOr l r m n p q = record { bounded = record { operands = omega (arith, p.bounded.operands, q.bounded.operands); cells = omega (arith, p.bounded.cells, q.bounded.cells) }; some = omega arith }
  binary_sized _ l r m n p q = record { bounded = record { operands = omega (arith, p.bounded.operands, q.bounded.operands); cells = omega (arith, p.bounded.cells, q.bounded.cells) }; some = omega arith }

  expr_step_sized : (y : Expr-F Known) → Sized (expr_depth_step functions (map-Expr Expr Depth depth (map-Expr Known Expr tree y))) (expr_size_step (map-Expr Expr ℕ expr_size (map-Expr Known Expr tree y)))
  expr_step_sized (Expr-F.Cell slot index) =
      let inner : P index.0 = index.1 in
      record { bounded = record { operands = omega (arith, inner.bounded.operands); cells = inner.bounded.cells }; some = omega arith }
  expr_step_sized (Expr-F.Unary operator width operand) =
      let inner : P operand.0 = operand.1 in
      record { bounded = record { operands = omega (arith, inner.bounded.operands); cells = inner.bounded.cells }; some = omega arith }
  expr_step_sized (Expr-F.Cast width operand) =
      let inner : P operand.0 = operand.1 in
      record { bounded = record { operands = omega (arith, inner.bounded.operands); cells = inner.bounded.cells }; some = omega arith }
  expr_step_sized (Expr-F.Binary operator width left right) = binary_sized operator (depth left.0) (depth right.0) (expr_size left.0) (expr_size right.0) left.1 right.1
  expr_step_sized (Expr-F.Call function arguments) =
      let inner = stacked_bounded 0 arguments in
      let callee = below_at most functions function below in
      record { bounded = record { operands = omega (arith, inner.operands, callee.operands); cells = omega (arith, inner.cells, callee.cells) }; some = omega arith }
  expr_step_sized (Expr-F.Number number) = one _ _ (omega arith) (omega arith) (omega arith)
  expr_step_sized (Expr-F.Slot slot) = one _ _ (omega arith) (omega arith) (omega arith)
  expr_step_sized (Expr-F.Copy variable) = one _ _ (omega arith) (omega arith) (omega arith)
  expr_step_sized (Expr-F.Past variable back) = one _ _ (omega arith) (omega arith) (omega arith)
  expr_step_sized (Expr-F.Ready stream) = one _ _ (omega arith) (omega arith) (omega arith)
  expr_step_sized (Expr-F.Take stream) = one _ _ (omega arith) (omega arith) (omega arith)

  expr_layer : (y : Expr-F Known) → P (roll-Expr (map-Expr Known Expr tree y))
  expr_layer y =
      let x : Expr-F Expr = map-Expr Known Expr tree y in
      subst (λ d. Sized d (expr_size (roll-Expr x))) (sym (fold-roll-Expr Depth (expr_depth_step functions) x))
      (subst (Sized (expr_depth_step functions (map-Expr Expr Depth depth x))) (sym (fold-roll-Expr ℕ expr_size_step x)) (expr_step_sized y))

  expr_sized : (e : Expr) → P e
  expr_sized = ind-Expr P (λ x y is. subst (λ z. P (roll-Expr z)) is (expr_layer y))

  pub expr_bounded : (e : Expr) → Bounded most (depth e) (expr_size e)
  expr_bounded e = (expr_sized e).bounded

  -- ---- statements

  abbrev Q : Stmt → Type 0
  Q s = Bounded most (stmt_depth functions s) (stmt_size s)

  abbrev KnownStmt : Type 0
  KnownStmt = (s : Stmt) × Q s

  abbrev stmt_tree : KnownStmt → Stmt
  stmt_tree k = k.0

  deepest_bounded : (ks : List KnownStmt) → Bounded most (deepest (map (stmt_depth functions) (map stmt_tree ks))) (total (map stmt_size (map stmt_tree ks)))
  deepest_bounded [] = record { operands = omega arith; cells = omega arith }
  deepest_bounded (k ∷ ks) =
      let first : Q k.0 = k.1 in
      let rest = deepest_bounded ks in
      record { operands = omega (arith, first.operands, rest.operands); cells = omega (arith, first.cells, rest.cells) }

  stmt_step_bounded : (y : Stmt-F KnownStmt) → Bounded most (stmt_depth_step functions (map-Stmt Stmt Depth (stmt_depth functions) (map-Stmt KnownStmt Stmt stmt_tree y))) (stmt_size_step (map-Stmt Stmt ℕ stmt_size (map-Stmt KnownStmt Stmt stmt_tree y)))
  stmt_step_bounded (Stmt-F.Set slot value) = let v = expr_bounded value in record { operands = omega arith; cells = omega arith }
  stmt_step_bounded (Stmt-F.SetCopy variable value) = let v = expr_bounded value in record { operands = omega arith; cells = omega arith }
  stmt_step_bounded (Stmt-F.SetCell slot index value) =
      let i = expr_bounded index in
      let v = expr_bounded value in
      record { operands = omega arith; cells = omega arith }
  stmt_step_bounded (Stmt-F.If test branch None) =
      let t = expr_bounded test in
      let b = deepest_bounded branch in
      record { operands = omega arith; cells = omega arith }
  stmt_step_bounded (Stmt-F.If test branch (Some other)) =
      let t = expr_bounded test in
      let b = deepest_bounded branch in
      let o = deepest_bounded other in
      record { operands = omega arith; cells = omega arith }
  stmt_step_bounded (Stmt-F.Bounded test greatest body) =
      let t = expr_bounded test in
      let b = deepest_bounded body in
      record { operands = omega arith; cells = omega arith }
  stmt_step_bounded (Stmt-F.Timed test body) =
      let t = expr_bounded test in
      let b = deepest_bounded body in
      record { operands = omega arith; cells = omega arith }
  stmt_step_bounded (Stmt-F.Send value stream after clock) = let v = expr_bounded value in record { operands = omega arith; cells = omega arith }
  stmt_step_bounded (Stmt-F.Advance point) = record { operands = omega arith; cells = omega arith }
  stmt_step_bounded (Stmt-F.Return value) = let v = expr_bounded value in record { operands = omega arith; cells = omega arith }

  stmt_layer : (y : Stmt-F KnownStmt) → Q (roll-Stmt (map-Stmt KnownStmt Stmt stmt_tree y))
  stmt_layer y =
      let x : Stmt-F Stmt = map-Stmt KnownStmt Stmt stmt_tree y in
      subst (λ d. Bounded most d (stmt_size (roll-Stmt x))) (sym (fold-roll-Stmt Depth (stmt_depth_step functions) x))
      (subst (Bounded most (stmt_depth_step functions (map-Stmt Stmt Depth (stmt_depth functions) x))) (sym (fold-roll-Stmt ℕ stmt_size_step x)) (stmt_step_bounded y))

  stmt_bounded : (s : Stmt) → Q s
  stmt_bounded = ind-Stmt Q (λ x y is. subst (λ z. Q (roll-Stmt z)) is (stmt_layer y))

  pub stmts_bounded : (stmts : List Stmt) → Bounded most (stmts_depth functions stmts) (stmts_size stmts)
  stmts_bounded [] = record { operands = omega arith; cells = omega arith }
  stmts_bounded (s ∷ stmts) =
      let first = stmt_bounded s in
      let rest = stmts_bounded stmts in
      record { operands = omega (arith, first.operands, rest.operands); cells = omega (arith, first.cells, rest.cells) }

-- ---- loops

abbrev Few : Stmt → Type 0
Few s = loops s ≤ stmt_size s

abbrev Counted : Type 0
Counted = (s : Stmt) × Few s

abbrev counted_tree : Counted → Stmt
counted_tree k = k.0

few_in : (ks : List Counted) → total (map loops (map counted_tree ks)) ≤ total (map stmt_size (map counted_tree ks))
few_in [] = omega arith
few_in (k ∷ ks) = omega (arith, k.1, few_in ks)

step_few : (y : Stmt-F Counted) → loops_step (map-Stmt Stmt ℕ loops (map-Stmt Counted Stmt counted_tree y)) ≤ stmt_size_step (map-Stmt Stmt ℕ stmt_size (map-Stmt Counted Stmt counted_tree y))
step_few (Stmt-F.If test branch None) = omega (arith, few_in branch)
step_few (Stmt-F.If test branch (Some other)) = omega (arith, few_in branch, few_in other)
step_few (Stmt-F.Bounded test most body) = omega (arith, few_in body)
step_few (Stmt-F.Timed test body) = omega (arith, few_in body)
step_few (Stmt-F.Set slot value) = omega arith
step_few (Stmt-F.SetCopy variable value) = omega arith
step_few (Stmt-F.SetCell slot index value) = omega arith
step_few (Stmt-F.Send value stream after clock) = omega arith
step_few (Stmt-F.Advance point) = omega arith
step_few (Stmt-F.Return value) = omega arith

few_layer : (y : Stmt-F Counted) → Few (roll-Stmt (map-Stmt Counted Stmt counted_tree y))
few_layer y =
    let x : Stmt-F Stmt = map-Stmt Counted Stmt counted_tree y in
    omega (arith, step_few y, fold-roll-Stmt ℕ loops_step x, fold-roll-Stmt ℕ stmt_size_step x)

few : (s : Stmt) → Few s
few = ind-Stmt Few (λ x y is. subst (λ z. Few (roll-Stmt z)) is (few_layer y))

pub loops-le_size : (stmts : List Stmt) → loops_in stmts ≤ stmts_size stmts
loops-le_size [] = omega arith
loops-le_size (s ∷ stmts) = omega (arith, few s, loops-le_size stmts)
