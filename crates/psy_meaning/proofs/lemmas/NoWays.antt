-- Ways that there aren't: to a point without an `advance`, back without a `return`, and through where no path is quiet.
use Rattle.std.proofs.Common.{◌≡◌, refl, sym, subst, ◌∙◌, inl, inr}
use Rattle.std.specs.Prelude.{ℕ, zero, suc, Bool, true, false, ◌&&◌, ◌||◌, List, [], ◌∷◌, ◌++◌, map, Option, Some, None}
use Rattle.std.specs.List.{list_any}
use Rattle.psy_lists.proofs.lemmas.Tests.{differ}
use Rattle.psy_tree.specs.declared.unit.Stmt.{Stmt, roll-Stmt, fold-roll-Stmt, rec-roll-Stmt, map-Stmt, ind-Stmt}
use Rattle.psy_tree.specs.declared.unit.Stmt.TheOpen.{Stmt-F}
use Rattle.psy_meaning.specs.Statements.{Piece}
use Rattle.psy_meaning.specs.Paths.{one_of, holds_step, holds, all_quiet, quiet_step, quiet, quiet_list}
use Rattle.psy_meaning.specs.Ways.{Meter, Way, Course, End, Fell, Back, To, here, one, both, sending, falling, returning, reaching, behind, and_on, or_else, courses_through, turning, course_step, course_by, expr_way, piece_course}
use Rattle.psy_meaning.specs.Rest.{pieces_of}
use Rattle.psy_meaning.proofs.lemmas.Layers.{natural_stmt}

abbrev pub NoWay : End → Course → Type 0
NoWay end course = (m n : Meter) → course end m n → ⊥

pub or_false : (a b : Bool) → (a || b) ≡ false → (a ≡ false) × (b ≡ false)
or_false false false h = (refl, refl)
or_false false true h = differ h
or_false true b h = differ h

-- ---- out of statements: back where left is none, or to a point

abbrev out : Option ℕ → End
out None = Back
out (Some point) = To point

pub none_falling : (left : Option ℕ) (way : Way) → NoWay (out left) (falling way)
none_falling None way m n e = e
none_falling (Some point) way m n e = e

pub none_on : (left : Option ℕ) (first second : Course) → NoWay (out left) first → NoWay (out left) second → NoWay (out left) (and_on first second)
none_on left first second p q m n (inl (k, f, g)) = q k n g
none_on None first second p q m n (inr g) = p m n g
none_on (Some point) first second p q m n (inr g) = p m n g

none_else : (end : End) (this that : Course) → NoWay end this → NoWay end that → NoWay end (or_else this that)
none_else end this that p q m n (inl g) = p m n g
none_else end this that p q m n (inr g) = q m n g

none_behind : (end : End) (way : Way) (course : Course) → NoWay end course → NoWay end (behind way course)
none_behind end way course p m n (k, w, g) = p k n g

none_turning : (left : Option ℕ) (most : ℕ) (test : Way) (body : Course) → NoWay (out left) body → NoWay (out left) (turning most test body)
none_turning left zero test body p = none_falling left (both test (both one one))
none_turning left (suc more) test body p =
    let next : Course = and_on body (behind one (turning more test body)) in
    none_else (out left) (falling (both test (both one one))) (behind (both test (both one one)) next) (none_falling left (both test (both one one)))
    (none_behind (out left) (both test (both one one)) next (none_on left body (behind one (turning more test body)) p (none_behind (out left) one (turning more test body) (none_turning left more test body p))))

-- What counts for this end
abbrev counts : Bool → Bool → Option ℕ → Bool
counts advance back None = back
counts advance back (Some point) = advance

module _ (ways : ℕ → Way) (advance back : Bool) (left : Option ℕ) (fits : counts advance back left ≡ true) where
  abbrev Q : Stmt → Type 0
  Q stmt = holds advance back stmt ≡ false → NoWay (out left) (course_by ways stmt)

  abbrev Known : Type 0
  Known = (stmt : Stmt) × Q stmt

  abbrev tree : Known → Stmt
  tree k = k.0

  none_in : (ks : List Known) → one_of (map (holds advance back) (map tree ks)) ≡ false → NoWay (out left) (courses_through (course_by ways) (map tree ks))
  none_in [] h = none_falling left here
  none_in (k ∷ ks) h =
      let both_false = or_false (holds advance back k.0) (one_of (map (holds advance back) (map tree ks))) h in
      none_on left (course_by ways k.0) (courses_through (course_by ways) (map tree ks)) (k.1 both_false.0) (none_in ks both_false.1)

  none_advance : (left : Option ℕ) → counts advance back left ≡ true → advance ≡ false → (point : ℕ) → NoWay (out left) (reaching point one)
  none_advance None f h point m n (e, w) = differ (subst (λ end. is_back end ≡ false) (sym e) refl)
    where
      is_back : End → Bool
      is_back Back = true
      is_back _ = false
  none_advance (Some to) f h point m n w = differ (sym f ∙ h)

  none_return : (left : Option ℕ) → counts advance back left ≡ true → back ≡ false → (way : Way) → NoWay (out left) (returning way)
  none_return None f h way m n w = differ (sym f ∙ h)
  none_return (Some to) f h way m n e = e

  step_none : (y : Stmt-F Known) → holds_step advance back (map-Stmt Stmt Bool (holds advance back) (map-Stmt Known Stmt tree y)) ≡ false → NoWay (out left) (course_step ways Stmt (λ y. y) (course_by ways) (map-Stmt Known Stmt tree y))
  step_none (Stmt-F.Set slot value) h = none_falling left (both (expr_way ways value) one)
  step_none (Stmt-F.SetCopy variable value) h = none_falling left (both (expr_way ways value) one)
  step_none (Stmt-F.SetCell slot index value) h = none_falling left (both (expr_way ways index) (both (expr_way ways value) one))
  step_none (Stmt-F.If test branch None) h =
      let this : Course = courses_through (course_by ways) (map tree branch) in
      none_behind (out left) (both (expr_way ways test) one) (or_else this (falling here)) (none_else (out left) this (falling here) (none_in branch h) (none_falling left here))
  step_none (Stmt-F.If test branch (Some other)) h =
      let both_false = or_false (one_of (map (holds advance back) (map tree branch))) (one_of (map (holds advance back) (map tree other))) h in
      let this : Course = courses_through (course_by ways) (map tree branch) in
      let that : Course = courses_through (course_by ways) (map tree other) in
      none_behind (out left) (both (expr_way ways test) one) (or_else (and_on this (falling one)) that)
      (none_else (out left) (and_on this (falling one)) that (none_on left this (falling one) (none_in branch both_false.0) (none_falling left one)) (none_in other both_false.1))
  step_none (Stmt-F.Bounded test most body) h =
      let inner : Course = courses_through (course_by ways) (map tree body) in
      none_behind (out left) one (turning most (expr_way ways test) inner) (none_turning left most (expr_way ways test) inner (none_in body h))
  step_none (Stmt-F.Timed test body) h =
      let inner : Course = courses_through (course_by ways) (map tree body) in
      none_behind (out left) (both (expr_way ways test) one) (or_else inner (falling here)) (none_else (out left) inner (falling here) (none_in body h) (none_falling left here))
  step_none (Stmt-F.Send value stream after clock) h = none_falling left (both (expr_way ways value) (sending (record { stream = stream; after = after; clock = clock })))
  step_none (Stmt-F.Advance point) h = none_advance left fits h point
  step_none (Stmt-F.Return value) h = none_return left fits h (both (expr_way ways value) one)

  layer : (y : Stmt-F Known) → Q (roll-Stmt (map-Stmt Known Stmt tree y))
  layer y h =
      let x : Stmt-F Stmt = map-Stmt Known Stmt tree y in
      subst (NoWay (out left)) (sym (rec-roll-Stmt Course (course_step ways) (natural_stmt ways) x)) (step_none y (sym (fold-roll-Stmt Bool (holds_step advance back) x) ∙ h))

  pub none : (stmt : Stmt) → Q stmt
  none = ind-Stmt Q (λ x y is. subst (λ z. Q (roll-Stmt z)) is (layer y))

  pub none_through : (stmts : List Stmt) → list_any (holds advance back) stmts ≡ false → NoWay (out left) (courses_through (course_by ways) stmts)
  none_through [] h = none_falling left here
  none_through (x ∷ xs) h =
      let both_false = or_false (holds advance back x) (list_any (holds advance back) xs) h in
      none_on left (course_by ways x) (courses_through (course_by ways) xs) (none x both_false.0) (none_through xs both_false.1)

-- ---- through statements of which no path is quiet

no_fall_first : (first second : Course) → NoWay Fell first → NoWay Fell (and_on first second)
no_fall_first first second p m n (inl (k, f, g)) = p m k f
no_fall_first first second p m n (inr e) = e

pub no_fall_second : (first second : Course) → NoWay Fell second → NoWay Fell (and_on first second)
no_fall_second first second p m n (inl (k, f, g)) = p k n g
no_fall_second first second p m n (inr e) = e

no_fall_on : (a b : Bool) (first second : Course) → (a ≡ false → NoWay Fell first) → (b ≡ false → NoWay Fell second) → (a && b) ≡ false → NoWay Fell (and_on first second)
no_fall_on true b first second p q h = no_fall_second first second (q h)
no_fall_on false b first second p q h = no_fall_first first second (p refl)

no_fall_point : (point : ℕ) → NoWay Fell (reaching point one)
no_fall_point point m n (e, w) = differ (subst (λ end. is_fell end ≡ false) (sym e) refl)
  where
    is_fell : End → Bool
    is_fell Fell = true
    is_fell _ = false

module _ (ways : ℕ → Way) where
  abbrev R : Stmt → Type 0
  R stmt = quiet stmt ≡ false → NoWay Fell (course_by ways stmt)

  abbrev Loud : Type 0
  Loud = (stmt : Stmt) × R stmt

  abbrev loud_tree : Loud → Stmt
  loud_tree k = k.0

  no_fall_in : (ks : List Loud) → all_quiet (map quiet (map loud_tree ks)) ≡ false → NoWay Fell (courses_through (course_by ways) (map loud_tree ks))
  no_fall_in [] h = differ h
  no_fall_in (k ∷ ks) h =
      no_fall_on (quiet k.0) (all_quiet (map quiet (map loud_tree ks))) (course_by ways k.0) (courses_through (course_by ways) (map loud_tree ks)) k.1 (no_fall_in ks) h

  step_loud : (y : Stmt-F Loud) → quiet_step (map-Stmt Stmt Bool quiet (map-Stmt Loud Stmt loud_tree y)) ≡ false → NoWay Fell (course_step ways Stmt (λ y. y) (course_by ways) (map-Stmt Loud Stmt loud_tree y))
  step_loud (Stmt-F.Advance point) h = no_fall_point point
  step_loud (Stmt-F.If test branch (Some other)) h =
      let both_false = or_false (all_quiet (map quiet (map loud_tree branch))) (all_quiet (map quiet (map loud_tree other))) h in
      let this : Course = courses_through (course_by ways) (map loud_tree branch) in
      let that : Course = courses_through (course_by ways) (map loud_tree other) in
      none_behind Fell (both (expr_way ways test) one) (or_else (and_on this (falling one)) that)
      (none_else Fell (and_on this (falling one)) that (no_fall_first this (falling one) (no_fall_in branch both_false.0)) (no_fall_in other both_false.1))
  step_loud (Stmt-F.If test branch None) h = differ h
  step_loud (Stmt-F.Set slot value) h = differ h
  step_loud (Stmt-F.SetCopy variable value) h = differ h
  step_loud (Stmt-F.SetCell slot index value) h = differ h
  step_loud (Stmt-F.Bounded test most body) h = differ h
  step_loud (Stmt-F.Timed test body) h = differ h
  step_loud (Stmt-F.Send value stream after clock) h = differ h
  step_loud (Stmt-F.Return value) h = differ h

  loud_layer : (y : Stmt-F Loud) → R (roll-Stmt (map-Stmt Loud Stmt loud_tree y))
  loud_layer y h =
      let x : Stmt-F Stmt = map-Stmt Loud Stmt loud_tree y in
      subst (NoWay Fell) (sym (rec-roll-Stmt Course (course_step ways) (natural_stmt ways) x)) (step_loud y (sym (fold-roll-Stmt Bool quiet_step x) ∙ h))

  loud : (stmt : Stmt) → R stmt
  loud = ind-Stmt R (λ x y is. subst (λ z. R (roll-Stmt z)) is (loud_layer y))

  -- the same of a body's pieces
  pub no_fall_through : (stmts : List Stmt) → quiet_list stmts ≡ false → NoWay Fell (courses_through (piece_course ways) (pieces_of stmts))
  no_fall_through [] h = differ h
  no_fall_through (x ∷ xs) h = no_fall_on (quiet x) (quiet_list xs) (course_by ways x) (courses_through (piece_course ways) (pieces_of xs)) (loud x) (no_fall_through xs) h

  pub no_fall_behind : (first second : List Piece) → NoWay Fell (courses_through (piece_course ways) second) → NoWay Fell (courses_through (piece_course ways) (first ++ second))
  no_fall_behind [] second p = p
  no_fall_behind (x ∷ xs) second p = no_fall_second (piece_course ways x) (courses_through (piece_course ways) (xs ++ second)) (no_fall_behind xs second p)
