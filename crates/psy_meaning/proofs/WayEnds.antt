-- A way through statements ends at the point of one of their `advance` statements.
use Rattle.std.proofs.Common.{◌≡◌, ℕ, zero, suc, List, [], ◌∷◌, ◌++◌, map, Some, None, sym, ap, subst, inl, inr}
use Rattle.psy_tree.specs.declared.unit.Stmt.{Stmt, roll-Stmt, fold-roll-Stmt, rec-roll-Stmt, map-Stmt, ind-Stmt}
use Rattle.psy_tree.specs.declared.unit.Stmt.TheOpen.{Stmt-F}
use Rattle.psy_meaning.specs.Paths.{advances_step, advances_of, advances_in}
use Rattle.psy_meaning.specs.Rest.{rest}
use Rattle.psy_meaning.specs.Sound.{Each}
use Rattle.psy_meaning.specs.Statements.{Piece, Do, Hop}
use Rattle.psy_meaning.specs.Ways.{Meter, Way, Course, End, To, here, one, both, sending, falling, returning, reaching, behind, and_on, or_else, courses_through, turning, course_step, course_by, expr_way, piece_course}
use Rattle.psy_meaning.proofs.lemmas.Eaches.{each-first, each-second}
use Rattle.psy_meaning.proofs.lemmas.Layers.{natural_stmt}
use Rattle.psy_meaning.proofs.lemmas.RestPieces.{PartsHave, PiecesHave, rest_has}

point_of : End → ℕ
point_of (To point) = point
point_of _ = 0

same_point : (p q : ℕ) → To p ≡ To q → p ≡ q
unfolding point_of
same_point p q e = ap point_of e

module _ (Fine : ℕ → Type 0) (ways : ℕ → Way) where
  -- All points at which the course ends are fine.
  abbrev Below : Course → Type 0
  Below course = (p : ℕ) (m n : Meter) → course (To p) m n → Fine p

  -- ---- words for courses

  below_falling : (way : Way) → Below (falling way)
  below_falling way p m n w = absurd w

  below_returning : (way : Way) → Below (returning way)
  below_returning way p m n w = absurd w

  below_reaching : (point : ℕ) → Fine point → Below (reaching point one)
  below_reaching point h p m n (e, w) = subst Fine (sym (same_point p point e)) h

  below_on : (first second : Course) → Below first → Below second → Below (and_on first second)
  below_on first second f g p m n (inl (k, v, w)) = g p k n w
  below_on first second f g p m n (inr w) = f p m n w

  below_else : (this that : Course) → Below this → Below that → Below (or_else this that)
  below_else this that f g p m n (inl w) = f p m n w
  below_else this that f g p m n (inr w) = g p m n w

  below_behind : (way : Way) (course : Course) → Below course → Below (behind way course)
  below_behind way course f p m n (k, v, w) = f p k n w

  below_turning : (most : ℕ) (test : Way) (body : Course) → Below body → Below (turning most test body)
  below_turning zero test body f = below_falling (both test (both one one))
  below_turning (suc more) test body f =
      let out : Way = both test (both one one) in
      let next : Course = behind one (turning more test body) in
      below_else (falling out) (behind out (and_on body next)) (below_falling out) (below_behind out (and_on body next) (below_on body next f (below_behind one (turning more test body) (below_turning more test body f))))

  -- ---- statements

  -- The points of the `advance` statements in it are fine.
  abbrev P : Stmt → Type 0
  P stmt = Each Fine (advances_of stmt)

  abbrev AllFine : List Stmt → Type 0
  AllFine stmts = Each Fine (advances_in stmts)

  first_fine : (stmt : Stmt) (stmts : List Stmt) → AllFine (stmt ∷ stmts) → P stmt
  first_fine stmt stmts h = each-first Fine (advances_of stmt) (advances_in stmts) h

  others_fine : (stmt : Stmt) (stmts : List Stmt) → AllFine (stmt ∷ stmts) → AllFine stmts
  others_fine stmt stmts h = each-second Fine (advances_of stmt) (advances_in stmts) h

  branch_fine : (branch other : List Stmt) → Each Fine (advances_in branch ++ advances_in other) → AllFine branch
  branch_fine branch other h = each-first Fine (advances_in branch) (advances_in other) h

  other_fine : (branch other : List Stmt) → Each Fine (advances_in branch ++ advances_in other) → AllFine other
  other_fine branch other h = each-second Fine (advances_in branch) (advances_in other) h

  abbrev Q : Stmt → Type 0
  Q stmt = P stmt → Below (course_by ways stmt)

  abbrev Known : Type 0
  Known = (stmt : Stmt) × Q stmt

  abbrev tree : Known → Stmt
  tree k = k.0

  through_in : (ks : List Known) → AllFine (map tree ks) → Below (courses_through (course_by ways) (map tree ks))
  through_in [] h = below_falling here
  through_in (k ∷ ks) h = below_on (course_by ways k.0) (courses_through (course_by ways) (map tree ks)) (k.1 (first_fine k.0 (map tree ks) h)) (through_in ks (others_fine k.0 (map tree ks) h))

  step : (y : Stmt-F Known) → let x = map-Stmt Known Stmt tree y in Each Fine (advances_step (map-Stmt Stmt (List ℕ) advances_of x)) → Below (course_step ways Stmt (λ y. y) (course_by ways) x)
  step (Stmt-F.Set slot value) h = below_falling (both (expr_way ways value) one)
  step (Stmt-F.SetCopy variable value) h = below_falling (both (expr_way ways value) one)
  step (Stmt-F.SetCell slot index value) h = below_falling (both (expr_way ways index) (both (expr_way ways value) one))
  step (Stmt-F.If test branch None) h =
      let this : Course = courses_through (course_by ways) (map tree branch) in
      below_behind (both (expr_way ways test) one) (or_else this (falling here)) (below_else this (falling here) (through_in branch h) (below_falling here))
  step (Stmt-F.If test branch (Some other)) h =
      let this : Course = courses_through (course_by ways) (map tree branch) in
      let that : Course = courses_through (course_by ways) (map tree other) in
      below_behind (both (expr_way ways test) one) (or_else (and_on this (falling one)) that)
      (below_else (and_on this (falling one)) that (below_on this (falling one) (through_in branch (branch_fine (map tree branch) (map tree other) h)) (below_falling one))
      (through_in other (other_fine (map tree branch) (map tree other) h)))
  step (Stmt-F.Bounded test most body) h =
      let inner : Course = courses_through (course_by ways) (map tree body) in
      below_behind one (turning most (expr_way ways test) inner) (below_turning most (expr_way ways test) inner (through_in body h))
  step (Stmt-F.Timed test body) h =
      let inner : Course = courses_through (course_by ways) (map tree body) in
      below_behind (both (expr_way ways test) one) (or_else inner (falling here)) (below_else inner (falling here) (through_in body h) (below_falling here))
  step (Stmt-F.Send value stream after clock) h = below_falling (both (expr_way ways value) (sending (record { stream = stream; after = after; clock = clock })))
  step (Stmt-F.Advance point) h = below_reaching point h.0
  step (Stmt-F.Return value) h = below_returning (both (expr_way ways value) one)

  layer : (y : Stmt-F Known) → Q (roll-Stmt (map-Stmt Known Stmt tree y))
  layer y h =
      let x : Stmt-F Stmt = map-Stmt Known Stmt tree y in
      subst Below (sym (rec-roll-Stmt Course (course_step ways) (natural_stmt ways) x)) (step y (subst (Each Fine) (fold-roll-Stmt (List ℕ) advances_step x) h))

  fine_below : (stmt : Stmt) → Q stmt
  fine_below = ind-Stmt Q (λ x y is. subst (λ z. Q (roll-Stmt z)) is (layer y))

  -- ---- pieces

  each_fine : (stmts : List Stmt) → AllFine stmts → Each P stmts
  each_fine [] h = tt
  each_fine (x ∷ xs) h = (first_fine x xs h, each_fine xs (others_fine x xs h))

  parts_fine : (x : Stmt-F Stmt) → Each Fine (advances_step (map-Stmt Stmt (List ℕ) advances_of x)) → PartsHave P x
  parts_fine (Stmt-F.If test branch None) h = each_fine branch h
  parts_fine (Stmt-F.If test branch (Some other)) h = (each_fine branch (branch_fine branch other h), each_fine other (other_fine branch other h))
  parts_fine (Stmt-F.Bounded test most body) h = each_fine body h
  parts_fine (Stmt-F.Timed test body) h = each_fine body h
  parts_fine _ h = tt

  pieces_below : (pieces : List Piece) → PiecesHave P pieces → Below (courses_through (piece_course ways) pieces)
  pieces_below [] h = below_falling here
  pieces_below (Do stmt ∷ ps) h = below_on (course_by ways stmt) (courses_through (piece_course ways) ps) (fine_below stmt h.0) (pieces_below ps h.1)
  pieces_below (Hop ∷ ps) h = below_on (falling one) (courses_through (piece_course ways) ps) (below_falling one) (pieces_below ps h.1)

  pub way_fine : (body : List Stmt) (point to : ℕ) (before now : Meter) → AllFine body → courses_through (piece_course ways) (rest body point) (To to) before now → Fine to
  way_fine body point to before now h w =
      let down : (x : Stmt-F Stmt) → P (roll-Stmt x) → PartsHave P x = λ x h. parts_fine x (subst (Each Fine) (fold-roll-Stmt (List ℕ) advances_step x) h) in
      pieces_below (rest body point) (rest_has P down body point (each_fine body h)) to before now w
