-- What a sound agent's ways keep: what each instruction keeps, each look that isn't too deep, and each send that is allowed.
use Rattle.std.proofs.Common.{◌≡◌, ℕ, zero, suc, ◌+◌, true, false, List, [], ◌∷◌, ◌++◌, map, Some, None, sym, subst, inl, inr}
use Rattle.std.proofs.lemmas.Option.{none-some}
use Rattle.psy_arith.specs.declared.operators.Op2.{Op2}
use Rattle.psy_arith.specs.declared.operators.Op2.TheVariants as op
use Rattle.psy_tree.specs.declared.unit.Expr.{Expr, roll-Expr, rec-roll-Expr, map-Expr, ind-Expr}
use Rattle.psy_tree.specs.declared.unit.Expr.TheOpen.{Expr-F}
use Rattle.psy_tree.specs.declared.unit.FunctionDecl.{FunctionDecl}
use Rattle.psy_tree.specs.declared.unit.Stmt.{Stmt, roll-Stmt, rec-roll-Stmt, map-Stmt, ind-Stmt}
use Rattle.psy_tree.specs.declared.unit.Stmt.TheOpen.{Stmt-F}
use Rattle.psy_meaning.specs.Rest.{rest}
use Rattle.psy_meaning.specs.Sound.{Scope, Each, HasPast, CanSend, sound_expr_step, sound_stmt_step, IsSoundExpr, IsSoundStmt, AreSound, function_scope, AreSoundFunctions}
use Rattle.psy_meaning.specs.Statements.{Piece, Do, Hop}
use Rattle.psy_meaning.specs.Ways.{Meter, Sending, Way, Course, End, Fell, Back, To, here, one, looking, sending, both, either, falling, returning, reaching, behind, and_on, or_else, ways_through, binary_way, courses_through, turning, expr_way_step, expr_way, course_step, course_by, piece_course, callee_way, with_way, callee_ways_from, callee_ways}
use Rattle.psy_meaning.proofs.lemmas.Layers.{natural_expr, natural_stmt}
use Rattle.psy_meaning.proofs.OpenWays.{lazy, two}
use Rattle.psy_meaning.proofs.lemmas.RestPieces.{PartsHave, PiecesHave, rest_has}
use Rattle.psy_meaning.proofs.lemmas.SoundParts.{exprs_natural, stmts_natural}

-- What was met, and one instruction more
abbrev pub stepped_on : Meter → Meter
stepped_on m = record m { steps = m.steps + 1 }

-- The same with a look
abbrev pub looked_on : ℕ → ℕ → Meter → Meter
looked_on variable back m = record m { steps = m.steps + 1; looks = m.looks ++ record { number = m.steps; variable = variable; back = back } ∷ [] }

-- The same with a send
abbrev pub sent_on : Sending → Meter → Meter
sent_on send m = record m { steps = m.steps + 1; sends = m.sends ++ send ∷ [] }

module _ (Fines : Meter → Type 0) (steps : (m : Meter) → Fines m → Fines (stepped_on m)) where
  -- The way keeps it.
  abbrev pub Keeps : Way → Type 0
  Keeps way = (m n : Meter) → way m n → Fines m → Fines n

  abbrev pub KeepsAll : Course → Type 0
  KeepsAll course = (end : End) → Keeps (course end)

  -- ---- words for ways

  keeps_here : Keeps here
  keeps_here m n e h = subst Fines (sym e) h

  keeps_one : Keeps one
  keeps_one m n e h = subst Fines (sym e) (steps m h)

  keeps_both : (first second : Way) → Keeps first → Keeps second → Keeps (both first second)
  keeps_both first second p q m n (k, v, w) h = q k n w (p m k v h)

  keeps_either : (this that : Way) → Keeps this → Keeps that → Keeps (either this that)
  keeps_either this that p q m n (inl w) h = p m n w h
  keeps_either this that p q m n (inr w) h = q m n w h

  keeps_two : Keeps two
  keeps_two = keeps_both one one keeps_one keeps_one

  keeps_lazy : (right : Way) → Keeps right → Keeps (lazy right)
  keeps_lazy right p = keeps_both one (either here (both right one)) keeps_one (keeps_either here (both right one) keeps_here (keeps_both right one p keeps_one))

  keeps_binary : (operator : Op2) (left right : Way) → Keeps left → Keeps right → Keeps (binary_way operator left right)
  keeps_binary op.AndAnd left right p q = keeps_both left (lazy right) p (keeps_lazy right q)
  keeps_binary op.OrOr left right p q = keeps_both left (lazy right) p (keeps_lazy right q)
  keeps_binary operator left right p q = keeps_both left (both right one) p (keeps_both right one q keeps_one)

  -- ---- words for courses

  keeps_falling : (way : Way) → Keeps way → KeepsAll (falling way)
  keeps_falling way p Fell m n w h = p m n w h
  keeps_falling way p Back m n w h = absurd w
  keeps_falling way p (To point) m n w h = absurd w

  keeps_returning : (way : Way) → Keeps way → KeepsAll (returning way)
  keeps_returning way p Back m n w h = p m n w h
  keeps_returning way p Fell m n w h = absurd w
  keeps_returning way p (To point) m n w h = absurd w

  keeps_reaching : (point : ℕ) (way : Way) → Keeps way → KeepsAll (reaching point way)
  keeps_reaching point way p end m n (e, w) h = p m n w h

  keeps_on : (first second : Course) → KeepsAll first → KeepsAll second → KeepsAll (and_on first second)
  keeps_on first second p q end m n (inl (k, v, w)) h = q end k n w (p Fell m k v h)
  keeps_on first second p q Fell m n (inr w) h = absurd w
  keeps_on first second p q Back m n (inr w) h = p Back m n w h
  keeps_on first second p q (To point) m n (inr w) h = p (To point) m n w h

  keeps_else : (this that : Course) → KeepsAll this → KeepsAll that → KeepsAll (or_else this that)
  keeps_else this that p q end m n (inl w) h = p end m n w h
  keeps_else this that p q end m n (inr w) h = q end m n w h

  keeps_behind : (way : Way) (course : Course) → Keeps way → KeepsAll course → KeepsAll (behind way course)
  keeps_behind way course p q end m n (k, v, w) h = q end k n w (p m k v h)

  keeps_turning : (most : ℕ) (test : Way) (body : Course) → Keeps test → KeepsAll body → KeepsAll (turning most test body)
  keeps_turning zero test body p q = keeps_falling (both test two) (keeps_both test two p keeps_two)
  keeps_turning (suc more) test body p q =
      let out : Way = both test two in
      let next : Course = behind one (turning more test body) in
      let kept : Keeps out = keeps_both test two p keeps_two in
      keeps_else (falling out) (behind out (and_on body next)) (keeps_falling out kept)
      (keeps_behind out (and_on body next) kept (keeps_on body next q (keeps_behind one (turning more test body) keeps_one (keeps_turning more test body p q))))

  -- Where what can be named is kept
  module _ (scope : Scope) (looks : (variable back : ℕ) → HasPast scope variable back → (m : Meter) → Fines m → Fines (looked_on variable back m))
      (sends : (send : Sending) → CanSend scope send.stream send.after send.clock → (m : Meter) → Fines m → Fines (sent_on send m))
      (ways : ℕ → Way) (all : (number : ℕ) → Keeps (ways number)) where
    -- ---- expressions

    abbrev P : Expr → Type 0
    P e = IsSoundExpr scope e → Keeps (expr_way ways e)

    abbrev Kept : Type 0
    Kept = (e : Expr) × P e

    abbrev expr : Kept → Expr
    expr k = k.0

    keeps_through : (ks : List Kept) → Each (IsSoundExpr scope) (map expr ks) → Keeps (ways_through (expr_way ways) (map expr ks))
    keeps_through [] h = keeps_here
    keeps_through (k ∷ ks) h = keeps_both (expr_way ways k.0) (ways_through (expr_way ways) (map expr ks)) (k.1 h.0) (keeps_through ks h.1)

    keeps_looking : (variable back : ℕ) → HasPast scope variable back → Keeps (looking variable back)
    keeps_looking variable back has m n e h = subst Fines (sym e) (looks variable back has m h)

    keeps_sending : (send : Sending) → CanSend scope send.stream send.after send.clock → Keeps (sending send)
    keeps_sending send can m n e h = subst Fines (sym e) (sends send can m h)

    -- An expression keeps it, where its parts and what it calls do,
    keeps_layer : (y : Expr-F Kept) → let x = map-Expr Kept Expr expr y in sound_expr_step scope Expr (λ y. y) (IsSoundExpr scope) x → Keeps (expr_way_step ways Expr (λ y. y) (expr_way ways) x)
    keeps_layer (Expr-F.Number number) h = keeps_one
    keeps_layer (Expr-F.Slot slot) h = keeps_one
    keeps_layer (Expr-F.Copy variable) h = keeps_one
    keeps_layer (Expr-F.Cell slot index) h = keeps_both (expr_way ways index.0) one (index.1 h.1) keeps_one
    keeps_layer (Expr-F.Past variable back) h = keeps_looking variable back h
    keeps_layer (Expr-F.Ready stream) h = keeps_one
    keeps_layer (Expr-F.Take stream) h = keeps_one
    keeps_layer (Expr-F.Unary operator width operand) h = keeps_both (expr_way ways operand.0) one (operand.1 h) keeps_one
    keeps_layer (Expr-F.Cast width operand) h = keeps_both (expr_way ways operand.0) one (operand.1 h) keeps_one
    keeps_layer (Expr-F.Binary operator width left right) h = keeps_binary operator (expr_way ways left.0) (expr_way ways right.0) (left.1 h.0) (right.1 h.1)
    keeps_layer (Expr-F.Call function arguments) h =
        keeps_both (ways_through (expr_way ways) (map expr arguments)) (both one (ways function)) (keeps_through arguments h.1) (keeps_both one (ways function) keeps_one (all function))

    expr_layer : (y : Expr-F Kept) → P (roll-Expr (map-Expr Kept Expr expr y))
    expr_layer y h =
        let x : Expr-F Expr = map-Expr Kept Expr expr y in
        subst Keeps (sym (rec-roll-Expr Way (expr_way_step ways) (natural_expr ways) x)) (keeps_layer y (subst (λ (t : Type 0). t) (rec-roll-Expr (Type 0) (sound_expr_step scope) (exprs_natural scope) x) h))

    -- so each does.
    keeps_expr : (e : Expr) → P e
    keeps_expr = ind-Expr P (λ x y is. subst (λ z. P (roll-Expr z)) is (expr_layer y))

    keeps_then : (e : Expr) (next : Way) → IsSoundExpr scope e → Keeps next → Keeps (both (expr_way ways e) next)
    keeps_then e next h p = keeps_both (expr_way ways e) next (keeps_expr e h) p

    -- ---- statements

    abbrev Q : Stmt → Type 0
    Q stmt = IsSoundStmt scope stmt → KeepsAll (course_by ways stmt)

    abbrev Known : Type 0
    Known = (stmt : Stmt) × Q stmt

    abbrev tree : Known → Stmt
    tree k = k.0

    through_in : (ks : List Known) → Each (IsSoundStmt scope) (map tree ks) → KeepsAll (courses_through (course_by ways) (map tree ks))
    through_in [] h = keeps_falling here keeps_here
    through_in (k ∷ ks) h = keeps_on (course_by ways k.0) (courses_through (course_by ways) (map tree ks)) (k.1 h.0) (through_in ks h.1)

    step : (y : Stmt-F Known) → let x = map-Stmt Known Stmt tree y in sound_stmt_step scope Stmt (λ y. y) (IsSoundStmt scope) x → KeepsAll (course_step ways Stmt (λ y. y) (course_by ways) x)
    step (Stmt-F.Set slot value) h = keeps_falling (both (expr_way ways value) one) (keeps_then value one h.1 keeps_one)
    step (Stmt-F.SetCopy variable value) h = keeps_falling (both (expr_way ways value) one) (keeps_then value one h.1 keeps_one)
    step (Stmt-F.SetCell slot index value) h =
        keeps_falling (both (expr_way ways index) (both (expr_way ways value) one)) (keeps_then index (both (expr_way ways value) one) h.1 (keeps_then value one h.2 keeps_one))
    step (Stmt-F.If test branch None) h =
        let this : Course = courses_through (course_by ways) (map tree branch) in
        keeps_behind (both (expr_way ways test) one) (or_else this (falling here)) (keeps_then test one h.0 keeps_one) (keeps_else this (falling here) (through_in branch h.1) (keeps_falling here keeps_here))
    step (Stmt-F.If test branch (Some other)) h =
        let this : Course = courses_through (course_by ways) (map tree branch) in
        let that : Course = courses_through (course_by ways) (map tree other) in
        keeps_behind (both (expr_way ways test) one) (or_else (and_on this (falling one)) that) (keeps_then test one h.0 keeps_one)
        (keeps_else (and_on this (falling one)) that (keeps_on this (falling one) (through_in branch h.1) (keeps_falling one keeps_one)) (through_in other h.2))
    step (Stmt-F.Bounded test most body) h =
        let inner : Course = courses_through (course_by ways) (map tree body) in
        keeps_behind one (turning most (expr_way ways test) inner) keeps_one (keeps_turning most (expr_way ways test) inner (keeps_expr test h.0) (through_in body h.2))
    step (Stmt-F.Timed test body) h =
        let inner : Course = courses_through (course_by ways) (map tree body) in
        keeps_behind (both (expr_way ways test) one) (or_else inner (falling here)) (keeps_then test one h.0 keeps_one) (keeps_else inner (falling here) (through_in body h.2) (keeps_falling here keeps_here))
    step (Stmt-F.Send value stream after clock) h =
        let send : Sending = record { stream = stream; after = after; clock = clock } in
        keeps_falling (both (expr_way ways value) (sending send)) (keeps_then value (sending send) h.1 (keeps_sending send h.0))
    step (Stmt-F.Advance point) h = keeps_reaching point one keeps_one
    step (Stmt-F.Return value) h = keeps_returning (both (expr_way ways value) one) (keeps_then value one h.1 keeps_one)

    opened : (x : Stmt-F Stmt) → IsSoundStmt scope (roll-Stmt x) → sound_stmt_step scope Stmt (λ y. y) (IsSoundStmt scope) x
    opened x h = subst (λ (t : Type 0). t) (rec-roll-Stmt (Type 0) (sound_stmt_step scope) (stmts_natural scope) x) h

    layer : (y : Stmt-F Known) → Q (roll-Stmt (map-Stmt Known Stmt tree y))
    layer y h =
        let x : Stmt-F Stmt = map-Stmt Known Stmt tree y in
        subst KeepsAll (sym (rec-roll-Stmt Course (course_step ways) (natural_stmt ways) x)) (step y (opened x h))

    -- A sound statement keeps it,
    keeps_stmt : (stmt : Stmt) → Q stmt
    keeps_stmt = ind-Stmt Q (λ x y is. subst (λ z. Q (roll-Stmt z)) is (layer y))

    -- and so do several.
    pub keeps_stmts : (stmts : List Stmt) → AreSound scope stmts → KeepsAll (courses_through (course_by ways) stmts)
    keeps_stmts [] h = keeps_falling here keeps_here
    keeps_stmts (x ∷ xs) h = keeps_on (course_by ways x) (courses_through (course_by ways) xs) (keeps_stmt x h.0) (keeps_stmts xs h.1)

    -- ---- pieces

    parts_sound : (x : Stmt-F Stmt) → sound_stmt_step scope Stmt (λ y. y) (IsSoundStmt scope) x → PartsHave (IsSoundStmt scope) x
    parts_sound (Stmt-F.If test branch None) h = h.1
    parts_sound (Stmt-F.If test branch (Some other)) h = (h.1, h.2)
    parts_sound (Stmt-F.Bounded test most body) h = h.2
    parts_sound (Stmt-F.Timed test body) h = h.2
    parts_sound _ h = tt

    keeps_pieces : (pieces : List Piece) → PiecesHave (IsSoundStmt scope) pieces → KeepsAll (courses_through (piece_course ways) pieces)
    keeps_pieces [] h = keeps_falling here keeps_here
    keeps_pieces (Do stmt ∷ ps) h = keeps_on (course_by ways stmt) (courses_through (piece_course ways) ps) (keeps_stmt stmt h.0) (keeps_pieces ps h.1)
    keeps_pieces (Hop ∷ ps) h = keeps_on (falling one) (courses_through (piece_course ways) ps) (keeps_falling one keeps_one) (keeps_pieces ps h.1)

    -- What is left of a body behind a point keeps it too.
    pub keeps_rest : (body : List Stmt) (point : ℕ) → AreSound scope body → KeepsAll (courses_through (piece_course ways) (rest body point))
    keeps_rest body point h = keeps_pieces (rest body point) (rest_has (IsSoundStmt scope) (λ x s. parts_sound x (opened x s)) body point h)

  -- ---- functions

  -- A function's statements neither look nor send,
  no_look : {A : Type 0} (above : List FunctionDecl) (f : FunctionDecl) (variable back : ℕ) → HasPast (function_scope above [] [] f) variable back → A
  no_look above f variable back (depth, is, less) = absurd (none-some depth is)

  no_send : {A : Type 0} (above : List FunctionDecl) (f : FunctionDecl) (send : Sending) → CanSend (function_scope above [] [] f) send.stream send.after send.clock → A
  no_send above f send can = let different : false ≡ true = can.allowed in absurd cc

  callee_keeps : (ways : ℕ → Way) (above : List FunctionDecl) (f : FunctionDecl) → ((number : ℕ) → Keeps (ways number)) → AreSound (function_scope above [] [] f) f.stmts → Keeps (callee_way ways f)
  callee_keeps ways above f all h m n (inl w) k = keeps_stmts (function_scope above [] [] f) (λ variable back has m h. no_look above f variable back has) (λ send can m h. no_send above f send can) ways all f.stmts h Back m n w k
  callee_keeps ways above f all h m n (inr w) k =
      keeps_both (courses_through (course_by ways) f.stmts Fell) two
      (keeps_stmts (function_scope above [] [] f) (λ variable back has m h. no_look above f variable back has) (λ send can m h. no_send above f send can) ways all f.stmts h Fell) keeps_two m n w k

  with_keeps : (number : ℕ) (last : Way) (ways : ℕ → Way) → Keeps last → ((function : ℕ) → Keeps (ways function)) → (function : ℕ) → Keeps (with_way number last ways function)
  with_keeps number last ways p q function m n (inl (e, w)) h = p m n w h
  with_keeps number last ways p q function m n (inr (e, w)) h = q function m n w h

  from_keeps : (number : ℕ) (ways : ℕ → Way) (above fs : List FunctionDecl) → ((function : ℕ) → Keeps (ways function)) → AreSoundFunctions above fs → (function : ℕ) → Keeps (callee_ways_from number ways fs function)
  from_keeps number ways above [] all h = all
  from_keeps number ways above (f ∷ fs) all h =
      from_keeps (number + 1) (with_way number (callee_way ways f) ways) (above ++ f ∷ []) fs (with_keeps number (callee_way ways f) ways (callee_keeps ways above f all (h.0.stmts [] [])) all) h.1

  -- and so their ways keep it.
  pub callees_keep : (fs : List FunctionDecl) → AreSoundFunctions [] fs → (function : ℕ) → Keeps (callee_ways fs function)
  callees_keep fs h = from_keeps 0 (λ function. here) [] fs (λ function. keeps_here) h
