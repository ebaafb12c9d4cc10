-- Greatest counts are related where those of the calls are, by whatever sums and maxima keep.
use Rattle.std.proofs.Common.{ℕ, zero, suc, ◌+◌, max, Bool, true, false, if◌then◌else◌, List, [], ◌∷◌, ◌++◌, map, Option, Some, None, sym, subst}
use Rattle.std.specs.Prelude.{⊤}
use Rattle.psy_arith.specs.declared.operators.Op2.{Op2}
use Rattle.psy_arith.specs.declared.operators.Op2.TheVariants as op
use Rattle.psy_tree.specs.declared.unit.Expr.{Expr, roll-Expr, fold-roll-Expr, map-Expr, ind-Expr}
use Rattle.psy_tree.specs.declared.unit.Expr.TheOpen.{Expr-F}
use Rattle.psy_tree.specs.declared.unit.Stmt.{Stmt, roll-Stmt, fold-roll-Stmt, map-Stmt, ind-Stmt}
use Rattle.psy_tree.specs.declared.unit.Stmt.TheOpen.{Stmt-F}
use Rattle.psy_tree.specs.Paths.{total}
use Rattle.psy_meaning.specs.Statements.{Piece, Do, Hop}
use Rattle.psy_flow.specs.declared.gauge.Gauge.{Gauge}
use Rattle.psy_flow.specs.declared.tops.Tops.{Tops}
use Rattle.psy_flow.specs.Tops.{in_step, in_send, in_look, binary_most, expr_most_step, expr_most, nowhere, falling, returning, reaching, plus, greater, behind, or_else, leaving, on_from, and_on, tops_through, turning, meets, stmt_tops_step, stmt_tops, stmts_tops, piece_tops, pieces_tops, count_or_zero, call_most, called}

module _ (R : ℕ → ℕ → Type 0) (same : (n : ℕ) → R n n) (sums : (a b c d : ℕ) → R a b → R c d → R (a + c) (b + d)) (maxima : (a b c d : ℕ) → R a b → R c d → R (max a c) (max b d)) where
  abbrev pub Either : Option ℕ → Option ℕ → Type 0
  Either None None = ⊤
  Either None (Some b) = ⊥
  Either (Some a) None = ⊥
  Either (Some a) (Some b) = R a b

  pub record Related (t u : Tops) : Type 0 where
    pub fell : Either t.fell u.fell
    pub back : Either t.back u.back
    pub to : Either t.to u.to

  -- ---- words for tops

  plus_related : (m n : ℕ) (a b : Option ℕ) → R m n → Either a b → Either (plus m a) (plus n b)
  plus_related m n None None r h = h
  plus_related m n None (Some b) r h = h
  plus_related m n (Some a) None r h = h
  plus_related m n (Some a) (Some b) r h = sums m n a b r h

  greater_related : (a b c d : Option ℕ) → Either a b → Either c d → Either (greater a c) (greater b d)
  greater_related None None c d h k = k
  greater_related None (Some b) c d h k = absurd h
  greater_related (Some a) None c d h k = absurd h
  greater_related (Some a) (Some b) None None h k = h
  greater_related (Some a) (Some b) None (Some d) h k = absurd k
  greater_related (Some a) (Some b) (Some c) None h k = absurd k
  greater_related (Some a) (Some b) (Some c) (Some d) h k = maxima a b c d h k

  falling_related : (m n : ℕ) → R m n → Related (falling m) (falling n)
  falling_related m n r = record { fell = r; back = tt {0}; to = tt {0} }

  returning_related : (m n : ℕ) → R m n → Related (returning m) (returning n)
  returning_related m n r = record { fell = tt {0}; back = r; to = tt {0} }

  nowhere_related : Related nowhere nowhere
  nowhere_related = record { fell = tt {0}; back = tt {0}; to = tt {0} }

  behind_related : (m n : ℕ) (t u : Tops) → R m n → Related t u → Related (behind m t) (behind n u)
  behind_related m n t u r h = record { fell = plus_related m n t.fell u.fell r h.fell; back = plus_related m n t.back u.back r h.back; to = plus_related m n t.to u.to r h.to }

  else_related : (t u v w : Tops) → Related t u → Related v w → Related (or_else t v) (or_else u w)
  else_related t u v w h k = record { fell = greater_related t.fell u.fell v.fell w.fell h.fell k.fell; back = greater_related t.back u.back v.back w.back h.back k.back; to = greater_related t.to u.to v.to w.to h.to k.to }

  leaving_related : (t u : Tops) → Related t u → Related (leaving t) (leaving u)
  leaving_related t u h = record { fell = tt {0}; back = h.back; to = h.to }

  from_related : (a b : Option ℕ) (t u : Tops) → Either a b → Related t u → Related (on_from a t) (on_from b u)
  from_related None None t u r h = nowhere_related
  from_related None (Some b) t u r h = absurd r
  from_related (Some a) None t u r h = absurd r
  from_related (Some a) (Some b) t u r h = behind_related a b t u r h

  on_related : (t u v w : Tops) → Related t u → Related v w → Related (and_on t v) (and_on u w)
  on_related t u v w h k = else_related (on_from t.fell v) (on_from u.fell w) (leaving t) (leaving u) (from_related t.fell u.fell v w h.fell k) (leaving_related t u h)

  turning_related : (g : Gauge) (most m n : ℕ) (t u : Tops) → R m n → Related t u → Related (turning g most m t) (turning g most n u)
  turning_related g zero m n t u r h = falling_related (m + (in_step g + in_step g)) (n + (in_step g + in_step g)) (sums m n _ _ r (same _))
  turning_related g (suc more) m n t u r h =
      let two : ℕ = in_step g + in_step g in
      let tested = sums m n two two r (same two) in
      let next = behind_related (in_step g) (in_step g) (turning g more m t) (turning g more n u) (same _) (turning_related g more m n t u r h) in
      else_related (falling (m + two)) (falling (n + two)) (behind (m + two) (and_on t (behind (in_step g) (turning g more m t)))) (behind (n + two) (and_on u (behind (in_step g) (turning g more n u))))
      (falling_related (m + two) (n + two) tested)
      (behind_related (m + two) (n + two) _ _ tested (on_related t u (behind (in_step g) (turning g more m t)) (behind (in_step g) (turning g more n u)) h next))

  zero_related : (a b : Option ℕ) → Either a b → R (count_or_zero a) (count_or_zero b)
  zero_related None None h = same 0
  zero_related None (Some b) h = absurd h
  zero_related (Some a) None h = absurd h
  zero_related (Some a) (Some b) h = h

  pub call_related : (g : Gauge) (t u : Tops) → Related t u → R (call_most g t) (call_most g u)
  call_related g t u h =
      let two : ℕ = in_step g + in_step g in
      zero_related (greater t.back (plus two t.fell)) (greater u.back (plus two u.fell)) (greater_related t.back u.back (plus two t.fell) (plus two u.fell) h.back (plus_related two two t.fell u.fell (same two) h.fell))

  -- ---- rows

  abbrev pub Rows : List ℕ → List ℕ → Type 0
  Rows [] [] = ⊤
  Rows [] (y ∷ ys) = ⊥
  Rows (x ∷ xs) [] = ⊥
  Rows (x ∷ xs) (y ∷ ys) = R x y × Rows xs ys

  pub rows_more : (xs ys : List ℕ) (x y : ℕ) → Rows xs ys → R x y → Rows (xs ++ x ∷ []) (ys ++ y ∷ [])
  rows_more [] [] x y h r = (r, tt {0})
  rows_more [] (v ∷ ys) x y h r = absurd h
  rows_more (u ∷ xs) [] x y h r = absurd h
  rows_more (u ∷ xs) (v ∷ ys) x y h r = (h.0, rows_more xs ys x y h.1 r)

  pub row_related : (xs ys : List ℕ) (f : ℕ) → Rows xs ys → R (called xs f) (called ys f)
  row_related [] [] f h = same 0
  row_related [] (v ∷ ys) f h = absurd h
  row_related (u ∷ xs) [] f h = absurd h
  row_related (u ∷ xs) (v ∷ ys) zero h = h.0
  row_related (u ∷ xs) (v ∷ ys) (suc f) h = row_related xs ys f h.1

  module _ (g : Gauge) (a b : ℕ → ℕ) (calls : (f : ℕ) → R (a f) (b f)) where
    -- ---- expressions

    abbrev P : Expr → Type 0
    P e = R (expr_most g a e) (expr_most g b e)

    abbrev Known : Type 0
    Known = (e : Expr) × P e

    abbrev tree : Known → Expr
    tree k = k.0

    total_related : (ks : List Known) → R (total (map (expr_most g a) (map tree ks))) (total (map (expr_most g b) (map tree ks)))
    total_related [] = same 0
    total_related (k ∷ ks) = sums (expr_most g a k.0) (expr_most g b k.0) (total (map (expr_most g a) (map tree ks))) (total (map (expr_most g b) (map tree ks))) k.1 (total_related ks)

    one_more : (m n k : ℕ) → R m n → R (m + k) (n + k)
    one_more m n k r = sums m n k k r (same k)

    binary_related : (operator : Op2) (l m r s : ℕ) → R l m → R r s → R (binary_most g operator l r) (binary_most g operator m s)
    binary_related op.AndAnd l m r s p q = sums l m _ _ p (sums _ _ _ _ (same (in_step g)) (one_more r s (in_step g) q))
    binary_related op.OrOr l m r s p q = sums l m _ _ p (sums _ _ _ _ (same (in_step g)) (one_more r s (in_step g) q))
    binary_related _ l m r s p q = sums l m _ _ p (one_more r s (in_step g) q)

    expr_step : (y : Expr-F Known) → R (expr_most_step g a (map-Expr Expr ℕ (expr_most g a) (map-Expr Known Expr tree y))) (expr_most_step g b (map-Expr Expr ℕ (expr_most g b) (map-Expr Known Expr tree y)))
    expr_step (Expr-F.Cell slot index) = one_more (expr_most g a index.0) (expr_most g b index.0) (in_step g) index.1
    expr_step (Expr-F.Unary operator width operand) = one_more (expr_most g a operand.0) (expr_most g b operand.0) (in_step g) operand.1
    expr_step (Expr-F.Cast width operand) = one_more (expr_most g a operand.0) (expr_most g b operand.0) (in_step g) operand.1
    expr_step (Expr-F.Binary operator width left right) = binary_related operator (expr_most g a left.0) (expr_most g b left.0) (expr_most g a right.0) (expr_most g b right.0) left.1 right.1
    expr_step (Expr-F.Call function arguments) = sums _ _ _ _ (total_related arguments) (sums _ _ _ _ (same (in_step g)) (calls function))
    expr_step (Expr-F.Past variable back) = same (in_look g variable)
    expr_step (Expr-F.Number number) = same (in_step g)
    expr_step (Expr-F.Slot slot) = same (in_step g)
    expr_step (Expr-F.Copy variable) = same (in_step g)
    expr_step (Expr-F.Ready stream) = same (in_step g)
    expr_step (Expr-F.Take stream) = same (in_step g)

    expr_layer : (y : Expr-F Known) → P (roll-Expr (map-Expr Known Expr tree y))
    expr_layer y =
        let x : Expr-F Expr = map-Expr Known Expr tree y in
        subst (λ n. R n (expr_most g b (roll-Expr x))) (sym (fold-roll-Expr ℕ (expr_most_step g a) x))
        (subst (R (expr_most_step g a (map-Expr Expr ℕ (expr_most g a) x))) (sym (fold-roll-Expr ℕ (expr_most_step g b) x)) (expr_step y))

    expr_related : (e : Expr) → P e
    expr_related = ind-Expr P (λ x y is. subst (λ z. P (roll-Expr z)) is (expr_layer y))

    -- ---- statements

    module _ (w : Option ℕ) where
      abbrev tops_a : Stmt → Tops
      tops_a = stmt_tops g w a

      abbrev tops_b : Stmt → Tops
      tops_b = stmt_tops g w b

      abbrev Q : Stmt → Type 0
      Q s = Related (tops_a s) (tops_b s)

      abbrev KnownStmt : Type 0
      KnownStmt = (s : Stmt) × Q s

      abbrev stmt_tree : KnownStmt → Stmt
      stmt_tree k = k.0

      through_related : (ks : List KnownStmt) → Related (tops_through (map tops_a (map stmt_tree ks))) (tops_through (map tops_b (map stmt_tree ks)))
      through_related [] = falling_related 0 0 (same 0)
      through_related (k ∷ ks) = on_related (tops_a k.0) (tops_b k.0) (tops_through (map tops_a (map stmt_tree ks))) (tops_through (map tops_b (map stmt_tree ks))) k.1 (through_related ks)

      at_point : (yes : Bool) → Related (if yes then reaching (in_step g) else nowhere) (if yes then reaching (in_step g) else nowhere)
      at_point true = record { fell = tt {0}; back = tt {0}; to = same (in_step g) }
      at_point false = nowhere_related

      set_related : (e : Expr) (k : ℕ) → R (expr_most g a e + k) (expr_most g b e + k)
      set_related e k = one_more (expr_most g a e) (expr_most g b e) k (expr_related e)

      stmt_step : (y : Stmt-F KnownStmt) → Related (stmt_tops_step g w a (map-Stmt Stmt Tops tops_a (map-Stmt KnownStmt Stmt stmt_tree y))) (stmt_tops_step g w b (map-Stmt Stmt Tops tops_b (map-Stmt KnownStmt Stmt stmt_tree y)))
      stmt_step (Stmt-F.Set slot value) = falling_related _ _ (set_related value (in_step g))
      stmt_step (Stmt-F.SetCopy variable value) = falling_related _ _ (set_related value (in_step g))
      stmt_step (Stmt-F.SetCell slot index value) = falling_related _ _ (sums _ _ _ _ (expr_related index) (set_related value (in_step g)))
      stmt_step (Stmt-F.If test branch None) =
          behind_related _ _ _ _ (set_related test (in_step g))
          (else_related _ _ (falling 0) (falling 0) (through_related branch) (falling_related 0 0 (same 0)))
      stmt_step (Stmt-F.If test branch (Some other)) =
          let this = through_related branch in
          behind_related _ _ _ _ (set_related test (in_step g))
          (else_related _ _ _ _ (on_related _ _ (falling (in_step g)) (falling (in_step g)) this (falling_related _ _ (same (in_step g)))) (through_related other))
      stmt_step (Stmt-F.Bounded test most body) = behind_related _ _ _ _ (same (in_step g)) (turning_related g most _ _ _ _ (expr_related test) (through_related body))
      stmt_step (Stmt-F.Timed test body) =
          behind_related _ _ _ _ (set_related test (in_step g)) (else_related _ _ (falling 0) (falling 0) (through_related body) (falling_related 0 0 (same 0)))
      stmt_step (Stmt-F.Send value stream after clock) = falling_related _ _ (set_related value (in_send g stream))
      stmt_step (Stmt-F.Advance point) = at_point (meets w point)
      stmt_step (Stmt-F.Return value) = returning_related _ _ (set_related value (in_step g))

      stmt_layer : (y : Stmt-F KnownStmt) → Q (roll-Stmt (map-Stmt KnownStmt Stmt stmt_tree y))
      stmt_layer y =
          let x : Stmt-F Stmt = map-Stmt KnownStmt Stmt stmt_tree y in
          subst (λ t. Related t (tops_b (roll-Stmt x))) (sym (fold-roll-Stmt Tops (stmt_tops_step g w a) x))
          (subst (Related (stmt_tops_step g w a (map-Stmt Stmt Tops tops_a x))) (sym (fold-roll-Stmt Tops (stmt_tops_step g w b) x)) (stmt_step y))

      stmt_related : (s : Stmt) → Q s
      stmt_related = ind-Stmt Q (λ x y is. subst (λ z. Q (roll-Stmt z)) is (stmt_layer y))

      pub stmts_related : (stmts : List Stmt) → Related (stmts_tops g w a stmts) (stmts_tops g w b stmts)
      stmts_related [] = falling_related 0 0 (same 0)
      stmts_related (s ∷ stmts) = on_related (tops_a s) (tops_b s) (stmts_tops g w a stmts) (stmts_tops g w b stmts) (stmt_related s) (stmts_related stmts)

      piece_related : (p : Piece) → Related (piece_tops g w a p) (piece_tops g w b p)
      piece_related (Do stmt) = stmt_related stmt
      piece_related Hop = falling_related _ _ (same (in_step g))

      pub pieces_related : (pieces : List Piece) → Related (pieces_tops g w a pieces) (pieces_tops g w b pieces)
      pieces_related [] = falling_related 0 0 (same 0)
      pieces_related (p ∷ pieces) = on_related (piece_tops g w a p) (piece_tops g w b p) (pieces_tops g w a pieces) (pieces_tops g w b pieces) (piece_related p) (pieces_related pieces)
