-- What a way sends is of the text: each send that it adds is one of the statements.
use Rattle.std.proofs.Common.{◌≡◌, ℕ, zero, suc, List, [], ◌∷◌, ◌++◌, map, Some, None, sym, ap, subst, ◌∙◌, inl, inr}
use Rattle.psy_arith.specs.declared.operators.Op2.{Op2}
use Rattle.psy_arith.specs.declared.operators.Op2.TheVariants as op
use Rattle.psy_tree.specs.declared.unit.Expr.{Expr, roll-Expr, rec-roll-Expr, map-Expr, ind-Expr}
use Rattle.psy_tree.specs.declared.unit.Expr.TheOpen.{Expr-F}
use Rattle.psy_tree.specs.declared.unit.Stmt.{Stmt, roll-Stmt, fold-roll-Stmt, rec-roll-Stmt, map-Stmt, ind-Stmt}
use Rattle.psy_tree.specs.declared.unit.Stmt.TheOpen.{Stmt-F}
use Rattle.psy_meaning.specs.Sendings.{sendings_in, sendings_of, sendings_step}
use Rattle.psy_meaning.specs.Rest.{rest}
use Rattle.psy_meaning.specs.Sound.{Each}
use Rattle.psy_meaning.specs.Statements.{Piece, Do, Hop}
use Rattle.psy_meaning.specs.Ways.{Meter, Sending, Way, Course, End, Fell, Back, To, here, one, looking, sending, both, either, falling, returning, reaching, behind, and_on, or_else, ways_through, binary_way, courses_through, turning, expr_way_step, expr_way, course_step, course_by, piece_course}
use Rattle.psy_meaning.proofs.lemmas.Eaches.{each-append, each-first, each-second}
use Rattle.psy_meaning.proofs.lemmas.Layers.{natural_expr, natural_stmt}
use Rattle.psy_meaning.proofs.OpenWays.{lazy, two}
use Rattle.psy_meaning.proofs.lemmas.RestPieces.{PartsHave, PiecesHave, rest_has}

module _ (Fine : Sending → Type 0) where
  -- All that it sent is fine.
  abbrev pub Fines : Meter → Type 0
  Fines m = Each Fine m.sends

  -- The way adds none but fine sends.
  abbrev pub Keeps : Way → Type 0
  Keeps way = (m n : Meter) → way m n → Fines m → Fines n

  abbrev pub KeepsAll : Course → Type 0
  KeepsAll course = (end : End) → Keeps (course end)

  -- ---- words for ways

  keeps_same : (m n : Meter) → n.sends ≡ m.sends → Fines m → Fines n
  keeps_same m n e h = subst (Each Fine) (sym e) h

  pub keeps_here : Keeps here
  keeps_here m n e h = keeps_same m n (ap (λ (k : Meter). k.sends) e) h

  pub keeps_one : Keeps one
  keeps_one m n e h = keeps_same m n (ap (λ (k : Meter). k.sends) e) h

  keeps_looking : (variable back : ℕ) → Keeps (looking variable back)
  keeps_looking variable back m n e h = keeps_same m n (ap (λ (k : Meter). k.sends) e) h

  keeps_sending : (send : Sending) → Fine send → Keeps (sending send)
  keeps_sending send f m n e h = subst (Each Fine) (sym (ap (λ (k : Meter). k.sends) e)) (each-append Fine m.sends (send ∷ []) h (f, tt))

  pub keeps_both : (first second : Way) → Keeps first → Keeps second → Keeps (both first second)
  keeps_both first second p q m n (k, v, w) h = q k n w (p m k v h)

  keeps_either : (this that : Way) → Keeps this → Keeps that → Keeps (either this that)
  keeps_either this that p q m n (inl w) h = p m n w h
  keeps_either this that p q m n (inr w) h = q m n w h

  keeps_two : Keeps two
  keeps_two = keeps_both one one keeps_one keeps_one

  keeps_lazy : (right : Way) → Keeps right → Keeps (lazy right)
  keeps_lazy right p = keeps_both one (either here (both right one)) keeps_one (keeps_either here (both right one) keeps_here (keeps_both right one p keeps_one))

  keeps_binary : (operator : Op2) (left right : Way) → Keeps left → Keeps right → Keeps (binary_way operator left right)
  keeps_binary op.AndAnd left right p q = keeps_both left (lazy right) p (keeps_lazy right q)
  keeps_binary op.OrOr left right p q = keeps_both left (lazy right) p (keeps_lazy right q)
  keeps_binary operator left right p q = keeps_both left (both right one) p (keeps_both right one q keeps_one)

  keeps_through : {X : Type 0} (way : X → Way) (xs : List X) → ((x : X) → Keeps (way x)) → Keeps (ways_through way xs)
  keeps_through way [] p = keeps_here
  keeps_through way (x ∷ xs) p = keeps_both (way x) (ways_through way xs) (p x) (keeps_through way xs p)

  -- ---- words for courses

  keeps_falling : (way : Way) → Keeps way → KeepsAll (falling way)
  keeps_falling way p Fell m n w h = p m n w h
  keeps_falling way p Back m n w h = absurd w
  keeps_falling way p (To point) m n w h = absurd w

  keeps_returning : (way : Way) → Keeps way → KeepsAll (returning way)
  keeps_returning way p Back m n w h = p m n w h
  keeps_returning way p Fell m n w h = absurd w
  keeps_returning way p (To point) m n w h = absurd w

  keeps_reaching : (point : ℕ) (way : Way) → Keeps way → KeepsAll (reaching point way)
  keeps_reaching point way p end m n (e, w) h = p m n w h

  keeps_on : (first second : Course) → KeepsAll first → KeepsAll second → KeepsAll (and_on first second)
  keeps_on first second p q end m n (inl (k, v, w)) h = q end k n w (p Fell m k v h)
  keeps_on first second p q Fell m n (inr w) h = absurd w
  keeps_on first second p q Back m n (inr w) h = p Back m n w h
  keeps_on first second p q (To point) m n (inr w) h = p (To point) m n w h

  keeps_else : (this that : Course) → KeepsAll this → KeepsAll that → KeepsAll (or_else this that)
  keeps_else this that p q end m n (inl w) h = p end m n w h
  keeps_else this that p q end m n (inr w) h = q end m n w h

  keeps_behind : (way : Way) (course : Course) → Keeps way → KeepsAll course → KeepsAll (behind way course)
  keeps_behind way course p q end m n (k, v, w) h = q end k n w (p m k v h)

  keeps_turning : (most : ℕ) (test : Way) (body : Course) → Keeps test → KeepsAll body → KeepsAll (turning most test body)
  keeps_turning zero test body p q = keeps_falling (both test two) (keeps_both test two p keeps_two)
  keeps_turning (suc more) test body p q =
      let out : Way = both test two in
      let next : Course = behind one (turning more test body) in
      let kept : Keeps out = keeps_both test two p keeps_two in
      keeps_else (falling out) (behind out (and_on body next)) (keeps_falling out kept)
      (keeps_behind out (and_on body next) kept (keeps_on body next q (keeps_behind one (turning more test body) keeps_one (keeps_turning more test body p q))))

  module _ (ways : ℕ → Way) (all : (number : ℕ) → Keeps (ways number)) where
    -- ---- expressions

    abbrev P : Expr → Type 0
    P e = Keeps (expr_way ways e)

    abbrev Kept : Type 0
    Kept = (e : Expr) × P e

    abbrev expr : Kept → Expr
    expr k = k.0

    abbrev way : Kept → Way
    way k = expr_way ways k.0

    -- An expression adds none, where its parts and what it calls don't,
    keeps_layer : (y : Expr-F Kept) → Keeps (expr_way_step ways Kept expr way y)
    keeps_layer (Expr-F.Number number) = keeps_one
    keeps_layer (Expr-F.Slot slot) = keeps_one
    keeps_layer (Expr-F.Copy variable) = keeps_one
    keeps_layer (Expr-F.Cell slot index) = keeps_both (way index) one index.1 keeps_one
    keeps_layer (Expr-F.Past variable back) = keeps_looking variable back
    keeps_layer (Expr-F.Ready stream) = keeps_one
    keeps_layer (Expr-F.Take stream) = keeps_one
    keeps_layer (Expr-F.Unary operator width operand) = keeps_both (way operand) one operand.1 keeps_one
    keeps_layer (Expr-F.Cast width operand) = keeps_both (way operand) one operand.1 keeps_one
    keeps_layer (Expr-F.Binary operator width left right) = keeps_binary operator (way left) (way right) left.1 right.1
    keeps_layer (Expr-F.Call function arguments) =
        keeps_both (ways_through way arguments) (both one (ways function)) (keeps_through way arguments (λ k. k.1)) (keeps_both one (ways function) keeps_one (all function))

    expr_layer : (y : Expr-F Kept) → P (roll-Expr (map-Expr Kept Expr expr y))
    expr_layer y = subst Keeps (natural_expr ways Kept expr (expr_way ways) y ∙ sym (rec-roll-Expr Way (expr_way_step ways) (natural_expr ways) (map-Expr Kept Expr expr y))) (keeps_layer y)

    -- so none does.
    keeps_expr : (e : Expr) → P e
    keeps_expr = ind-Expr P (λ x y is. subst (λ z. P (roll-Expr z)) is (expr_layer y))

    keeps_then : (e : Expr) (next : Way) → Keeps next → Keeps (both (expr_way ways e) next)
    keeps_then e next p = keeps_both (expr_way ways e) next (keeps_expr e) p

    -- ---- statements

    -- The sends in it are fine.
    abbrev F : Stmt → Type 0
    F stmt = Each Fine (sendings_of stmt)

    abbrev AllFine : List Stmt → Type 0
    AllFine stmts = Each Fine (sendings_in stmts)

    first_fine : (stmt : Stmt) (stmts : List Stmt) → AllFine (stmt ∷ stmts) → F stmt
    first_fine stmt stmts h = each-first Fine (sendings_of stmt) (sendings_in stmts) h

    others_fine : (stmt : Stmt) (stmts : List Stmt) → AllFine (stmt ∷ stmts) → AllFine stmts
    others_fine stmt stmts h = each-second Fine (sendings_of stmt) (sendings_in stmts) h

    branch_fine : (branch other : List Stmt) → Each Fine (sendings_in branch ++ sendings_in other) → AllFine branch
    branch_fine branch other h = each-first Fine (sendings_in branch) (sendings_in other) h

    other_fine : (branch other : List Stmt) → Each Fine (sendings_in branch ++ sendings_in other) → AllFine other
    other_fine branch other h = each-second Fine (sendings_in branch) (sendings_in other) h

    abbrev Q : Stmt → Type 0
    Q stmt = F stmt → KeepsAll (course_by ways stmt)

    abbrev Known : Type 0
    Known = (stmt : Stmt) × Q stmt

    abbrev tree : Known → Stmt
    tree k = k.0

    through_in : (ks : List Known) → AllFine (map tree ks) → KeepsAll (courses_through (course_by ways) (map tree ks))
    through_in [] h = keeps_falling here keeps_here
    through_in (k ∷ ks) h = keeps_on (course_by ways k.0) (courses_through (course_by ways) (map tree ks)) (k.1 (first_fine k.0 (map tree ks) h)) (through_in ks (others_fine k.0 (map tree ks) h))

    step : (y : Stmt-F Known) → let x = map-Stmt Known Stmt tree y in Each Fine (sendings_step (map-Stmt Stmt (List Sending) sendings_of x)) → KeepsAll (course_step ways Stmt (λ y. y) (course_by ways) x)
    step (Stmt-F.Set slot value) h = keeps_falling (both (expr_way ways value) one) (keeps_then value one keeps_one)
    step (Stmt-F.SetCopy variable value) h = keeps_falling (both (expr_way ways value) one) (keeps_then value one keeps_one)
    step (Stmt-F.SetCell slot index value) h =
        keeps_falling (both (expr_way ways index) (both (expr_way ways value) one)) (keeps_then index (both (expr_way ways value) one) (keeps_then value one keeps_one))
    step (Stmt-F.If test branch None) h =
        let this : Course = courses_through (course_by ways) (map tree branch) in
        keeps_behind (both (expr_way ways test) one) (or_else this (falling here)) (keeps_then test one keeps_one) (keeps_else this (falling here) (through_in branch h) (keeps_falling here keeps_here))
    step (Stmt-F.If test branch (Some other)) h =
        let this : Course = courses_through (course_by ways) (map tree branch) in
        let that : Course = courses_through (course_by ways) (map tree other) in
        keeps_behind (both (expr_way ways test) one) (or_else (and_on this (falling one)) that) (keeps_then test one keeps_one)
        (keeps_else (and_on this (falling one)) that (keeps_on this (falling one) (through_in branch (branch_fine (map tree branch) (map tree other) h)) (keeps_falling one keeps_one))
        (through_in other (other_fine (map tree branch) (map tree other) h)))
    step (Stmt-F.Bounded test most body) h =
        let inner : Course = courses_through (course_by ways) (map tree body) in
        keeps_behind one (turning most (expr_way ways test) inner) keeps_one (keeps_turning most (expr_way ways test) inner (keeps_expr test) (through_in body h))
    step (Stmt-F.Timed test body) h =
        let inner : Course = courses_through (course_by ways) (map tree body) in
        keeps_behind (both (expr_way ways test) one) (or_else inner (falling here)) (keeps_then test one keeps_one) (keeps_else inner (falling here) (through_in body h) (keeps_falling here keeps_here))
    step (Stmt-F.Send value stream after clock) h =
        let send : Sending = record { stream = stream; after = after; clock = clock } in
        keeps_falling (both (expr_way ways value) (sending send)) (keeps_then value (sending send) (keeps_sending send h.0))
    step (Stmt-F.Advance point) h = keeps_reaching point one keeps_one
    step (Stmt-F.Return value) h = keeps_returning (both (expr_way ways value) one) (keeps_then value one keeps_one)

    layer : (y : Stmt-F Known) → Q (roll-Stmt (map-Stmt Known Stmt tree y))
    layer y h =
        let x : Stmt-F Stmt = map-Stmt Known Stmt tree y in
        subst KeepsAll (sym (rec-roll-Stmt Course (course_step ways) (natural_stmt ways) x)) (step y (subst (Each Fine) (fold-roll-Stmt (List Sending) sendings_step x) h))

    -- A statement adds those of its text,
    keeps_stmt : (stmt : Stmt) → Q stmt
    keeps_stmt = ind-Stmt Q (λ x y is. subst (λ z. Q (roll-Stmt z)) is (layer y))

    -- and so do several.
    pub keeps_stmts : (stmts : List Stmt) → AllFine stmts → KeepsAll (courses_through (course_by ways) stmts)
    keeps_stmts [] h = keeps_falling here keeps_here
    keeps_stmts (x ∷ xs) h = keeps_on (course_by ways x) (courses_through (course_by ways) xs) (keeps_stmt x (first_fine x xs h)) (keeps_stmts xs (others_fine x xs h))

    -- ---- pieces

    each_fine : (stmts : List Stmt) → AllFine stmts → Each F stmts
    each_fine [] h = tt
    each_fine (x ∷ xs) h = (first_fine x xs h, each_fine xs (others_fine x xs h))

    parts_fine : (x : Stmt-F Stmt) → Each Fine (sendings_step (map-Stmt Stmt (List Sending) sendings_of x)) → PartsHave F x
    parts_fine (Stmt-F.If test branch None) h = each_fine branch h
    parts_fine (Stmt-F.If test branch (Some other)) h = (each_fine branch (branch_fine branch other h), each_fine other (other_fine branch other h))
    parts_fine (Stmt-F.Bounded test most body) h = each_fine body h
    parts_fine (Stmt-F.Timed test body) h = each_fine body h
    parts_fine _ h = tt

    keeps_pieces : (pieces : List Piece) → PiecesHave F pieces → KeepsAll (courses_through (piece_course ways) pieces)
    keeps_pieces [] h = keeps_falling here keeps_here
    keeps_pieces (Do stmt ∷ ps) h = keeps_on (course_by ways stmt) (courses_through (piece_course ways) ps) (keeps_stmt stmt h.0) (keeps_pieces ps h.1)
    keeps_pieces (Hop ∷ ps) h = keeps_on (falling one) (courses_through (piece_course ways) ps) (keeps_falling one keeps_one) (keeps_pieces ps h.1)

    -- What is left of a body behind a point adds sends of the body.
    pub keeps_rest : (body : List Stmt) (point : ℕ) → AllFine body → KeepsAll (courses_through (piece_course ways) (rest body point))
    keeps_rest body point h =
        let down : (x : Stmt-F Stmt) → F (roll-Stmt x) → PartsHave F x = λ x h. parts_fine x (subst (Each Fine) (fold-roll-Stmt (List Sending) sendings_step x) h) in
        keeps_pieces (rest body point) (rest_has F down body point (each_fine body h))
