-- The ways of sound functions neither look nor send.
use Rattle.std.proofs.Common.{◌≡◌, ℕ, zero, suc, ◌+◌, false, List, [], ◌∷◌, ◌++◌, map, Some, None, refl, sym, ap, subst, ◌∙◌, inl, inr}
use Rattle.std.specs.Prelude.{slice_get}
use Rattle.std.proofs.lemmas.Bool.{false≢true}
use Rattle.std.proofs.lemmas.Option.{none-some}
use Rattle.psy_arith.specs.declared.operators.Op2.{Op2}
use Rattle.psy_arith.specs.declared.operators.Op2.TheVariants as op
use Rattle.psy_tree.specs.declared.unit.Expr.{Expr, roll-Expr, rec-roll-Expr, map-Expr, ind-Expr}
use Rattle.psy_tree.specs.declared.unit.Expr.TheOpen.{Expr-F}
use Rattle.psy_tree.specs.declared.unit.FunctionDecl.{FunctionDecl}
use Rattle.psy_tree.specs.declared.unit.Stmt.{Stmt, roll-Stmt, rec-roll-Stmt, map-Stmt, ind-Stmt}
use Rattle.psy_tree.specs.declared.unit.Stmt.TheOpen.{Stmt-F}
use Rattle.psy_meaning.specs.Sound.{Scope, Each, IsSoundExpr, sound_expr_step, IsSoundStmt, sound_stmt_step, AreSound, function_scope, AreSoundFunctions}
use Rattle.psy_meaning.specs.Ways.{Meter, Way, Course, End, Fell, Back, To, here, one, both, either, falling, returning, leaving, behind, and_on, or_else, ways_through, binary_way, courses_through, turning, expr_way_step, expr_way, course_step, course_by, callee_way, with_way, callee_ways_from, callee_ways}
use Rattle.psy_meaning.proofs.lemmas.Layers.{natural_expr, natural_stmt}
use Rattle.psy_meaning.proofs.lemmas.SoundParts.{exprs_natural, stmts_natural}

-- ---- ways that leave looks and sends as they are

abbrev pub Left : Meter → Meter → Type 0
Left m n = (n.looks ≡ m.looks) × (n.sends ≡ m.sends)

abbrev pub Still : Way → Type 0
Still way = (m n : Meter) → way m n → Left m n

abbrev pub Calm : Course → Type 0
Calm course = (end : End) → Still (course end)

still_here : Still here
still_here m n e = (ap (λ (k : Meter). k.looks) e, ap (λ (k : Meter). k.sends) e)

still_one : Still one
still_one m n e = (ap (λ (k : Meter). k.looks) e, ap (λ (k : Meter). k.sends) e)

still_both : (first second : Way) → Still first → Still second → Still (both first second)
still_both first second p q m n (k, f, g) =
    let a = p m k f in
    let b = q k n g in
    (b.0 ∙ a.0, b.1 ∙ a.1)

still_either : (this that : Way) → Still this → Still that → Still (either this that)
still_either this that p q m n (inl w) = p m n w
still_either this that p q m n (inr w) = q m n w

calm_falling : (way : Way) → Still way → Calm (falling way)
calm_falling way p Fell m n w = p m n w
calm_falling way p Back m n w = absurd w
calm_falling way p (To point) m n w = absurd w

calm_returning : (way : Way) → Still way → Calm (returning way)
calm_returning way p Fell m n w = absurd w
calm_returning way p Back m n w = p m n w
calm_returning way p (To point) m n w = absurd w

calm_leaving : (course : Course) → Calm course → Calm (leaving course)
calm_leaving course p Fell m n w = absurd w
calm_leaving course p Back m n w = p Back m n w
calm_leaving course p (To point) m n w = p (To point) m n w

calm_behind : (way : Way) (course : Course) → Still way → Calm course → Calm (behind way course)
calm_behind way course p q end = still_both way (course end) p (q end)

calm_on : (first second : Course) → Calm first → Calm second → Calm (and_on first second)
calm_on first second p q end = still_either (both (first Fell) (second end)) (leaving first end) (still_both (first Fell) (second end) (p Fell) (q end)) (calm_leaving first p end)

calm_else : (this that : Course) → Calm this → Calm that → Calm (or_else this that)
calm_else this that p q end = still_either (this end) (that end) (p end) (q end)

abbrev two : Way
two = both one one

still_two : Still two
still_two = still_both one one still_one still_one

calm_turning : (most : ℕ) (test : Way) (body : Course) → Still test → Calm body → Calm (turning most test body)
calm_turning zero test body p q = calm_falling (both test two) (still_both test two p still_two)
calm_turning (suc more) test body p q =
    let out = still_both test two p still_two in
    let next : Course = behind one (turning more test body) in
    calm_else (falling (both test two)) (behind (both test two) (and_on body next)) (calm_falling (both test two) out)
    (calm_behind (both test two) (and_on body next) out (calm_on body next q (calm_behind one (turning more test body) still_one (calm_turning more test body p q))))

still_lazy : (right : Way) → Still right → Still (both one (either here (both right one)))
still_lazy right q = still_both one (either here (both right one)) still_one (still_either here (both right one) still_here (still_both right one q still_one))

still_binary : (operator : Op2) (left right : Way) → Still left → Still right → Still (binary_way operator left right)
still_binary op.AndAnd left right p q = still_both left (both one (either here (both right one))) p (still_lazy right q)
still_binary op.OrOr left right p q = still_both left (both one (either here (both right one))) p (still_lazy right q)
still_binary operator left right p q = still_both left (both right one) p (still_both right one q still_one)

module _ (sc : Scope) (no_depths : sc.depths ≡ []) (no_sends : sc.sends ≡ false) (ways : ℕ → Way) (all : (f : ℕ) → Still (ways f)) where
  -- ---- expressions

  abbrev P : Expr → Type 0
  P e = IsSoundExpr sc e → Still (expr_way ways e)

  abbrev Known : Type 0
  Known = (e : Expr) × P e

  abbrev tree : Known → Expr
  tree k = k.0

  still_through : (ks : List Known) → Each (IsSoundExpr sc) (map tree ks) → Still (ways_through (expr_way ways) (map tree ks))
  still_through [] h = still_here
  still_through (k ∷ ks) h = still_both (expr_way ways k.0) (ways_through (expr_way ways) (map tree ks)) (k.1 h.0) (still_through ks h.1)

  expr_step : (y : Expr-F Known) → let x = map-Expr Known Expr tree y in sound_expr_step sc Expr (λ y. y) (IsSoundExpr sc) x → Still (expr_way_step ways Expr (λ y. y) (expr_way ways) x)
  expr_step (Expr-F.Number number) h = still_one
  expr_step (Expr-F.Slot slot) h = still_one
  expr_step (Expr-F.Copy variable) h = still_one
  expr_step (Expr-F.Cell slot index) h = still_both (expr_way ways index.0) one (index.1 h.1) still_one
  expr_step (Expr-F.Past variable back) (depth, got, less) = absurd (none-some depth (ap (λ ds. slice_get ds variable) (sym no_depths) ∙ got))
  expr_step (Expr-F.Ready stream) h = still_one
  expr_step (Expr-F.Take stream) h = still_one
  expr_step (Expr-F.Unary operator width operand) h = still_both (expr_way ways operand.0) one (operand.1 h) still_one
  expr_step (Expr-F.Cast width operand) h = still_both (expr_way ways operand.0) one (operand.1 h) still_one
  expr_step (Expr-F.Binary operator width left right) h = still_binary operator (expr_way ways left.0) (expr_way ways right.0) (left.1 h.0) (right.1 h.1)
  expr_step (Expr-F.Call function arguments) h =
      still_both (ways_through (expr_way ways) (map tree arguments)) (both one (ways function)) (still_through arguments h.1) (still_both one (ways function) still_one (all function))

  expr_layer : (y : Expr-F Known) → P (roll-Expr (map-Expr Known Expr tree y))
  expr_layer y h =
      let x : Expr-F Expr = map-Expr Known Expr tree y in
      subst Still (sym (rec-roll-Expr Way (expr_way_step ways) (natural_expr ways) x)) (expr_step y (subst (λ (t : Type 0). t) (rec-roll-Expr (Type 0) (sound_expr_step sc) (exprs_natural sc) x) h))

  still_expr : (e : Expr) → P e
  still_expr = ind-Expr P (λ x y is. subst (λ z. P (roll-Expr z)) is (expr_layer y))

  -- ---- statements

  abbrev Q : Stmt → Type 0
  Q s = IsSoundStmt sc s → Calm (course_by ways s)

  abbrev KnownStmt : Type 0
  KnownStmt = (s : Stmt) × Q s

  abbrev stmt_tree : KnownStmt → Stmt
  stmt_tree k = k.0

  calm_through : (ks : List KnownStmt) → Each (IsSoundStmt sc) (map stmt_tree ks) → Calm (courses_through (course_by ways) (map stmt_tree ks))
  calm_through [] h = calm_falling here still_here
  calm_through (k ∷ ks) h = calm_on (course_by ways k.0) (courses_through (course_by ways) (map stmt_tree ks)) (k.1 h.0) (calm_through ks h.1)

  then_one : (e : Expr) → IsSoundExpr sc e → Still (both (expr_way ways e) one)
  then_one e h = still_both (expr_way ways e) one (still_expr e h) still_one

  stmt_step : (y : Stmt-F KnownStmt) → let x = map-Stmt KnownStmt Stmt stmt_tree y in sound_stmt_step sc Stmt (λ y. y) (IsSoundStmt sc) x → Calm (course_step ways Stmt (λ y. y) (course_by ways) x)
  stmt_step (Stmt-F.Set slot value) h = calm_falling (both (expr_way ways value) one) (then_one value h.1)
  stmt_step (Stmt-F.SetCopy variable value) h = calm_falling (both (expr_way ways value) one) (then_one value h.1)
  stmt_step (Stmt-F.SetCell slot index value) h =
      calm_falling (both (expr_way ways index) (both (expr_way ways value) one)) (still_both (expr_way ways index) (both (expr_way ways value) one) (still_expr index h.1) (then_one value h.2))
  stmt_step (Stmt-F.If test branch None) h =
      let this : Course = courses_through (course_by ways) (map stmt_tree branch) in
      calm_behind (both (expr_way ways test) one) (or_else this (falling here)) (then_one test h.0) (calm_else this (falling here) (calm_through branch h.1) (calm_falling here still_here))
  stmt_step (Stmt-F.If test branch (Some other)) h =
      let this : Course = courses_through (course_by ways) (map stmt_tree branch) in
      let that : Course = courses_through (course_by ways) (map stmt_tree other) in
      calm_behind (both (expr_way ways test) one) (or_else (and_on this (falling one)) that) (then_one test h.0)
      (calm_else (and_on this (falling one)) that (calm_on this (falling one) (calm_through branch h.1) (calm_falling one still_one)) (calm_through other h.2))
  stmt_step (Stmt-F.Bounded test most body) h =
      let inner : Course = courses_through (course_by ways) (map stmt_tree body) in
      calm_behind one (turning most (expr_way ways test) inner) still_one (calm_turning most (expr_way ways test) inner (still_expr test h.0) (calm_through body h.2))
  stmt_step (Stmt-F.Timed test body) h =
      let inner : Course = courses_through (course_by ways) (map stmt_tree body) in
      calm_behind (both (expr_way ways test) one) (or_else inner (falling here)) (then_one test h.0) (calm_else inner (falling here) (calm_through body h.2) (calm_falling here still_here))
  stmt_step (Stmt-F.Send value stream after clock) h = absurd (false≢true (sym no_sends ∙ h.0.allowed))
  stmt_step (Stmt-F.Advance point) h = λ end m n w. still_one m n w.1
  stmt_step (Stmt-F.Return value) h = calm_returning (both (expr_way ways value) one) (then_one value h.1)

  stmt_layer : (y : Stmt-F KnownStmt) → Q (roll-Stmt (map-Stmt KnownStmt Stmt stmt_tree y))
  stmt_layer y h =
      let x : Stmt-F Stmt = map-Stmt KnownStmt Stmt stmt_tree y in
      subst Calm (sym (rec-roll-Stmt Course (course_step ways) (natural_stmt ways) x)) (stmt_step y (subst (λ (t : Type 0). t) (rec-roll-Stmt (Type 0) (sound_stmt_step sc) (stmts_natural sc) x) h))

  calm_stmt : (s : Stmt) → Q s
  calm_stmt = ind-Stmt Q (λ x y is. subst (λ z. Q (roll-Stmt z)) is (stmt_layer y))

  calm_stmts : (stmts : List Stmt) → AreSound sc stmts → Calm (courses_through (course_by ways) stmts)
  calm_stmts [] h = calm_falling here still_here
  calm_stmts (x ∷ xs) h = calm_on (course_by ways x) (courses_through (course_by ways) xs) (calm_stmt x h.0) (calm_stmts xs h.1)

-- ---- functions

still_with : (number : ℕ) (last : Way) (above : ℕ → Way) → Still last → ((f : ℕ) → Still (above f)) → (f : ℕ) → Still (with_way number last above f)
still_with number last above p q f m n (inl w) = p m n w.1
still_with number last above p q f m n (inr w) = q f m n w.1

still_from : (number : ℕ) (ways : ℕ → Way) (above functions : List FunctionDecl) → ((f : ℕ) → Still (ways f)) → AreSoundFunctions above functions → (f : ℕ) → Still (callee_ways_from number ways functions f)
still_from number ways above [] all h = all
still_from number ways above (f ∷ fs) all h =
    let course : Course = courses_through (course_by ways) f.stmts in
    let calm : Calm course = calm_stmts (function_scope above [] [] f) refl refl ways all f.stmts (h.0.stmts [] []) in
    let call : Still (callee_way ways f) = still_either (course Back) (both (course Fell) two) (calm Back) (still_both (course Fell) two (calm Fell) still_two) in
    still_from (number + 1) (with_way number (callee_way ways f) ways) (above ++ f ∷ []) fs (still_with number (callee_way ways f) ways call all) h.1

pub still_calls : (functions : List FunctionDecl) → AreSoundFunctions [] functions → (f : ℕ) → Still (callee_ways functions f)
still_calls functions h = still_from 0 (λ function. here) [] functions (λ f. still_here) h
