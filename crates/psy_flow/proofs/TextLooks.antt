-- What isn't looked at in a text isn't counted on the ways through it.
use Rattle.std.proofs.Common.{◌≡◌, ℕ, zero, suc, ◌+◌, Bool, true, false, if◌then◌else◌, List, [], ◌∷◌, ◌++◌, map, Option, Some, None, refl, sym, ap, subst, ◌∙◌, inl, inr, arith}
use Rattle.std.specs.Prelude.{⊤, ◌==◌, ◌⊎◌}
use Rattle.std.specs.List.{Contains}
use Rattle.psy_arith.specs.declared.operators.Op2.{Op2}
use Rattle.psy_arith.specs.declared.operators.Op2.TheVariants as op
use Rattle.psy_tree.specs.declared.unit.Expr.{Expr, roll-Expr, fold-roll-Expr, map-Expr, ind-Expr}
use Rattle.psy_tree.specs.declared.unit.Expr.TheOpen.{Expr-F}
use Rattle.psy_tree.specs.declared.unit.Stmt.{Stmt, roll-Stmt, fold-roll-Stmt, map-Stmt, ind-Stmt}
use Rattle.psy_tree.specs.declared.unit.Stmt.TheOpen.{Stmt-F}
use Rattle.psy_tree.specs.Paths.{total}
use Rattle.psy_meaning.specs.Rest.{rest}
use Rattle.psy_meaning.specs.Sound.{Each}
use Rattle.psy_meaning.specs.Statements.{Piece, Do, Hop}
use Rattle.psy_meaning.proofs.lemmas.Eaches.{each-first, each-second}
use Rattle.psy_meaning.proofs.lemmas.RestPieces.{PartsHave, PiecesHave, rest_has}
use Rattle.psy_flow.specs.declared.gauge.Gauge.{Gauge}
use Rattle.psy_flow.specs.declared.gauge.Gauge.TheVariants as gauge
use Rattle.psy_flow.specs.declared.tops.Tops.{Tops}
use Rattle.psy_flow.specs.Texts.{expr_looks, expr_looks_step, joined, looks_in, stmt_looks, stmt_looks_step}
use Rattle.psy_flow.specs.Tops.{binary_most, called, expr_most_step, expr_most, nowhere, falling, returning, reaching, plus, greater, behind, or_else, leaving, on_from, and_on, tops_through, turning, meets, stmt_tops_step, stmt_tops, pieces_tops}

-- ---- counts of nothing

-- None, or a count of nothing
abbrev pub Zero : Option ℕ → Type 0
Zero None = ⊤
Zero (Some n) = n ≡ 0

pub record Idle (t : Tops) : Type 0 where
  pub fell : Zero t.fell
  pub back : Zero t.back
  pub to : Zero t.to

zero_plus : (n : ℕ) (o : Option ℕ) → n ≡ 0 → Zero o → Zero (plus n o)
zero_plus n None e h = h
zero_plus n (Some m) e h = omega (arith, e, h)

zero_greater : (a b : Option ℕ) → Zero a → Zero b → Zero (greater a b)
zero_greater None b h k = k
zero_greater (Some a) None h k = h
zero_greater (Some a) (Some b) h k = omega (arith, h, k)

idle_falling : (n : ℕ) → n ≡ 0 → Idle (falling n)
idle_falling n e = record { fell = e; back = tt {0}; to = tt {0} }

idle_returning : (n : ℕ) → n ≡ 0 → Idle (returning n)
idle_returning n e = record { fell = tt {0}; back = e; to = tt {0} }

idle_behind : (n : ℕ) (t : Tops) → n ≡ 0 → Idle t → Idle (behind n t)
idle_behind n t e h = record { fell = zero_plus n t.fell e h.fell; back = zero_plus n t.back e h.back; to = zero_plus n t.to e h.to }

idle_else : (t u : Tops) → Idle t → Idle u → Idle (or_else t u)
idle_else t u h k = record { fell = zero_greater t.fell u.fell h.fell k.fell; back = zero_greater t.back u.back h.back k.back; to = zero_greater t.to u.to h.to k.to }

idle_nowhere : Idle nowhere
idle_nowhere = record { fell = tt {0}; back = tt {0}; to = tt {0} }

idle_from : (o : Option ℕ) (t : Tops) → Zero o → Idle t → Idle (on_from o t)
idle_from None t h k = idle_nowhere
idle_from (Some n) t h k = idle_behind n t h k

idle_leaving : (t : Tops) → Idle t → Idle (leaving t)
idle_leaving t h = record { fell = tt {0}; back = h.back; to = h.to }

idle_on : (t u : Tops) → Idle t → Idle u → Idle (and_on t u)
idle_on t u h k = idle_else (on_from t.fell u) (leaving t) (idle_from t.fell u h.fell k) (idle_leaving t h)

module _ (variable : ℕ) where
  abbrev g : Gauge
  g = gauge.Looks variable

  abbrev calls : ℕ → ℕ
  calls = called []

  -- Another variable
  abbrev pub Other : ℕ → Type 0
  Other n = (n == variable) ≡ false

  idle_turning : (most test : ℕ) (body : Tops) → test ≡ 0 → Idle body → Idle (turning g most test body)
  idle_turning zero test body e h = idle_falling (test + (0 + 0)) (omega (arith, e))
  idle_turning (suc more) test body e h =
      let tested : test + (0 + 0) ≡ 0 = omega (arith, e) in
      let next : Tops = behind 0 (turning g more test body) in
      idle_else (falling (test + (0 + 0))) (behind (test + (0 + 0)) (and_on body next)) (idle_falling (test + (0 + 0)) tested)
      (idle_behind (test + (0 + 0)) (and_on body next) tested (idle_on body next h (idle_behind 0 (turning g more test body) refl (idle_turning more test body e h))))

  -- ---- expressions

  abbrev P : Expr → Type 0
  P e = Each Other (expr_looks e) → expr_most g calls e ≡ 0

  abbrev Known : Type 0
  Known = (e : Expr) × P e

  abbrev tree : Known → Expr
  tree k = k.0

  none_in : (ks : List Known) → Each Other (joined (map expr_looks (map tree ks))) → total (map (expr_most g calls) (map tree ks)) ≡ 0
  none_in [] h = refl
  none_in (k ∷ ks) h =
      let rest : List ℕ = joined (map expr_looks (map tree ks)) in
      omega (arith, k.1 (each-first Other (expr_looks k.0) rest h), none_in ks (each-second Other (expr_looks k.0) rest h))

  none_binary : (operator : Op2) (m n : ℕ) → m ≡ 0 → n ≡ 0 → binary_most g operator m n ≡ 0
  none_binary op.AndAnd m n e f = omega (arith, e, f)
  none_binary op.OrOr m n e f = omega (arith, e, f)
  none_binary _ m n e f = omega (arith, e, f)

  expr_step : (y : Expr-F Known) → let x = map-Expr Known Expr tree y in Each Other (expr_looks_step (map-Expr Expr (List ℕ) expr_looks x)) → expr_most_step g calls (map-Expr Expr ℕ (expr_most g calls) x) ≡ 0
  expr_step (Expr-F.Cell slot index) h = omega (arith, index.1 h)
  expr_step (Expr-F.Unary operator width operand) h = omega (arith, operand.1 h)
  expr_step (Expr-F.Cast width operand) h = omega (arith, operand.1 h)
  expr_step (Expr-F.Binary operator width left right) h =
      none_binary operator (expr_most g calls left.0) (expr_most g calls right.0) (left.1 (each-first Other (expr_looks left.0) (expr_looks right.0) h))
      (right.1 (each-second Other (expr_looks left.0) (expr_looks right.0) h))
  expr_step (Expr-F.Call function arguments) h = omega (arith, none_in arguments h)
  expr_step (Expr-F.Past other back) h = ap {B = ℕ} (λ b. if b then 1 else 0) h.0
  expr_step (Expr-F.Number number) h = refl
  expr_step (Expr-F.Slot slot) h = refl
  expr_step (Expr-F.Copy own) h = refl
  expr_step (Expr-F.Ready stream) h = refl
  expr_step (Expr-F.Take stream) h = refl

  expr_layer : (y : Expr-F Known) → P (roll-Expr (map-Expr Known Expr tree y))
  expr_layer y h =
      let x : Expr-F Expr = map-Expr Known Expr tree y in
      fold-roll-Expr ℕ (expr_most_step g calls) x ∙ expr_step y (subst (Each Other) (fold-roll-Expr (List ℕ) expr_looks_step x) h)

  expr_none : (e : Expr) → P e
  expr_none = ind-Expr P (λ x y is. subst (λ z. P (roll-Expr z)) is (expr_layer y))

  -- ---- statements

  -- It looks at others alone.
  abbrev F : Stmt → Type 0
  F stmt = Each Other (stmt_looks stmt)

  abbrev AllOther : List Stmt → Type 0
  AllOther stmts = Each Other (looks_in stmts)

  abbrev top : Stmt → Tops
  top = stmt_tops g None calls

  abbrev Q : Stmt → Type 0
  Q stmt = F stmt → Idle (top stmt)

  abbrev KnownStmt : Type 0
  KnownStmt = (stmt : Stmt) × Q stmt

  abbrev stmt_tree : KnownStmt → Stmt
  stmt_tree k = k.0

  idle_through : (ks : List KnownStmt) → AllOther (map stmt_tree ks) → Idle (tops_through (map top (map stmt_tree ks)))
  idle_through [] h = idle_falling 0 refl
  idle_through (k ∷ ks) h =
      let rest : List ℕ = looks_in (map stmt_tree ks) in
      idle_on (top k.0) (tops_through (map top (map stmt_tree ks))) (k.1 (each-first Other (stmt_looks k.0) rest h)) (idle_through ks (each-second Other (stmt_looks k.0) rest h))

  idle_at : (yes : Bool) → Idle (if yes then reaching 0 else nowhere)
  idle_at true = record { fell = tt {0}; back = tt {0}; to = refl }
  idle_at false = idle_nowhere

  idle_value : (value : Expr) → Each Other (expr_looks value) → Idle (falling (expr_most g calls value + 0))
  idle_value value h = idle_falling (expr_most g calls value + 0) (omega (arith, expr_none value h))

  idle_step : (y : Stmt-F KnownStmt) → let x = map-Stmt KnownStmt Stmt stmt_tree y in Each Other (stmt_looks_step (map-Stmt Stmt (List ℕ) stmt_looks x)) → Idle (stmt_tops_step g None calls (map-Stmt Stmt Tops top x))
  idle_step (Stmt-F.Set slot value) h = idle_value value h
  idle_step (Stmt-F.SetCopy own value) h = idle_value value h
  idle_step (Stmt-F.SetCell slot index value) h =
      let first = expr_none index (each-first Other (expr_looks index) (expr_looks value) h) in
      let second = expr_none value (each-second Other (expr_looks index) (expr_looks value) h) in
      idle_falling (expr_most g calls index + (expr_most g calls value + 0)) (omega (arith, first, second))
  idle_step (Stmt-F.If test branch None) h =
      let tested = expr_none test (each-first Other (expr_looks test) (looks_in (map stmt_tree branch)) h) in
      let this : Tops = tops_through (map top (map stmt_tree branch)) in
      idle_behind (expr_most g calls test + 0) (or_else this (falling 0)) (omega (arith, tested))
      (idle_else this (falling 0) (idle_through branch (each-second Other (expr_looks test) (looks_in (map stmt_tree branch)) h)) (idle_falling 0 refl))
  idle_step (Stmt-F.If test branch (Some other)) h =
      let first : List ℕ = looks_in (map stmt_tree branch) in
      let second : List ℕ = looks_in (map stmt_tree other) in
      let tested = expr_none test (each-first Other (expr_looks test) (first ++ second) h) in
      let both : Each Other (first ++ second) = each-second Other (expr_looks test) (first ++ second) h in
      let this : Tops = tops_through (map top (map stmt_tree branch)) in
      let that : Tops = tops_through (map top (map stmt_tree other)) in
      idle_behind (expr_most g calls test + 0) (or_else (and_on this (falling 0)) that) (omega (arith, tested))
      (idle_else (and_on this (falling 0)) that (idle_on this (falling 0) (idle_through branch (each-first Other first second both)) (idle_falling 0 refl)) (idle_through other (each-second Other first second both)))
  idle_step (Stmt-F.Bounded test most body) h =
      let inner : List ℕ = looks_in (map stmt_tree body) in
      let this : Tops = tops_through (map top (map stmt_tree body)) in
      idle_behind 0 (turning g most (expr_most g calls test) this) refl
      (idle_turning most (expr_most g calls test) this (expr_none test (each-first Other (expr_looks test) inner h)) (idle_through body (each-second Other (expr_looks test) inner h)))
  idle_step (Stmt-F.Timed test body) h =
      let inner : List ℕ = looks_in (map stmt_tree body) in
      let this : Tops = tops_through (map top (map stmt_tree body)) in
      let tested = expr_none test (each-first Other (expr_looks test) inner h) in
      idle_behind (expr_most g calls test + 0) (or_else this (falling 0)) (omega (arith, tested))
      (idle_else this (falling 0) (idle_through body (each-second Other (expr_looks test) inner h)) (idle_falling 0 refl))
  idle_step (Stmt-F.Send value stream after clock) h = idle_value value h
  idle_step (Stmt-F.Advance point) h = idle_at (meets None point)
  idle_step (Stmt-F.Return value) h = idle_returning (expr_most g calls value + 0) (omega (arith, expr_none value h))

  opened : (x : Stmt-F Stmt) → F (roll-Stmt x) → Each Other (stmt_looks_step (map-Stmt Stmt (List ℕ) stmt_looks x))
  opened x h = subst (Each Other) (fold-roll-Stmt (List ℕ) stmt_looks_step x) h

  idle_layer : (y : Stmt-F KnownStmt) → Q (roll-Stmt (map-Stmt KnownStmt Stmt stmt_tree y))
  idle_layer y h =
      let x : Stmt-F Stmt = map-Stmt KnownStmt Stmt stmt_tree y in
      subst Idle (sym (fold-roll-Stmt Tops (stmt_tops_step g None calls) x)) (idle_step y (opened x h))

  idle_stmt : (stmt : Stmt) → Q stmt
  idle_stmt = ind-Stmt Q (λ x y is. subst (λ z. Q (roll-Stmt z)) is (idle_layer y))

  -- ---- pieces

  each_other : (stmts : List Stmt) → AllOther stmts → Each F stmts
  each_other [] h = tt
  each_other (x ∷ xs) h = (each-first Other (stmt_looks x) (looks_in xs) h, each_other xs (each-second Other (stmt_looks x) (looks_in xs) h))

  parts_other : (x : Stmt-F Stmt) → Each Other (stmt_looks_step (map-Stmt Stmt (List ℕ) stmt_looks x)) → PartsHave F x
  parts_other (Stmt-F.If test branch None) h = each_other branch (each-second Other (expr_looks test) (looks_in branch) h)
  parts_other (Stmt-F.If test branch (Some other)) h =
      let both : Each Other (looks_in branch ++ looks_in other) = each-second Other (expr_looks test) (looks_in branch ++ looks_in other) h in
      (each_other branch (each-first Other (looks_in branch) (looks_in other) both), each_other other (each-second Other (looks_in branch) (looks_in other) both))
  parts_other (Stmt-F.Bounded test most body) h = each_other body (each-second Other (expr_looks test) (looks_in body) h)
  parts_other (Stmt-F.Timed test body) h = each_other body (each-second Other (expr_looks test) (looks_in body) h)
  parts_other _ h = tt

  idle_pieces : (pieces : List Piece) → PiecesHave F pieces → Idle (pieces_tops g None calls pieces)
  idle_pieces [] h = idle_falling 0 refl
  idle_pieces (Do stmt ∷ ps) h = idle_on (top stmt) (pieces_tops g None calls ps) (idle_stmt stmt h.0) (idle_pieces ps h.1)
  idle_pieces (Hop ∷ ps) h = idle_on (falling 0) (pieces_tops g None calls ps) (idle_falling 0 refl) (idle_pieces ps h.1)

  -- What is left of a body behind a point looks at nothing but what the body looks at.
  pub idle_rest : (body : List Stmt) (point : ℕ) → AllOther body → Idle (pieces_tops g None calls (rest body point))
  idle_rest body point h = idle_pieces (rest body point) (rest_has F (λ x has. parts_other x (opened x has)) body point (each_other body h))

  -- It is among some numbers, or they are those of others.
  pub there_or_not : (ns : List ℕ) → Contains ns variable ⊎ Each Other ns
  there_or_not [] = inr tt
  there_or_not (n ∷ ns) = by (n == variable) refl (there_or_not ns)
    where
      by : (same : Bool) → (n == variable) ≡ same → Contains ns variable ⊎ Each Other ns → Contains (n ∷ ns) variable ⊎ Each Other (n ∷ ns)
      by true e more = let same : n ≡ variable = grind (arith, e) in inl (0, omega arith, same)
      by false e (inl (k, less, is)) = inl (suc k, omega (arith, less), is)
      by false e (inr others) = inr (e, others)
