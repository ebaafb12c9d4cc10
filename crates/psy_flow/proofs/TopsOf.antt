-- The tops of statements and of pieces are the greatest counts of their courses.
use Rattle.std.proofs.Common.{◌≡◌, refl, sym, subst, inl, inr}
use Rattle.std.specs.Prelude.{ℕ, zero, suc, ◌+◌, Bool, true, false, if◌then◌else◌, List, [], ◌∷◌, map, Option, Some, None}
use Rattle.psy_tree.specs.declared.unit.Expr.{Expr}
use Rattle.psy_tree.specs.declared.unit.Stmt.{Stmt, roll-Stmt, fold-roll-Stmt, rec-roll-Stmt, map-Stmt, ind-Stmt}
use Rattle.psy_tree.specs.declared.unit.Stmt.TheOpen.{Stmt-F}
use Rattle.psy_meaning.specs.Statements.{Piece, Do, Hop}
use Rattle.psy_meaning.specs.Ways.{Sending, Meter, Way, Course, Fell, Back, To, here, one, sending, both, either, falling, returning, reaching, leaving, behind, and_on, or_else, courses_through, turning, expr_way, course_step, course_by, piece_course}
use Rattle.psy_flow.specs.declared.gauge.Gauge.{Gauge}
use Rattle.psy_flow.specs.declared.tops.Tops.{Tops}
use Rattle.psy_flow.specs.Tops.{in_step, in_send, expr_most, plus, greater, on_from, tops_through, meets, stmt_tops_step, stmt_tops, stmts_tops, piece_tops, pieces_tops}
use Rattle.psy_flow.specs.Tops as tops
use Rattle.psy_meaning.proofs.lemmas.Layers.{natural_stmt}
use Rattle.psy_flow.proofs.MostWays.{IsMost, most_here, most_one, most_sending, most_both, most_either, most_expr}

-- The greatest count of ways; none where there is no way from anything that was met
abbrev pub IsTop : Gauge → Way → Option ℕ → Type 0
IsTop g way None = (before now : Meter) → way before now → ⊥
IsTop g way (Some n) = IsMost g way n

-- The ways to a point that is asked for
abbrev pub asked : Option ℕ → Course → Way
asked wanted course before now = (point : ℕ) × (meets wanted point ≡ true) × course (To point) before now

-- The greatest counts of a course, by its ends
pub record AreTops (g : Gauge) (wanted : Option ℕ) (course : Course) (t : Tops) : Type 0 where
  pub fell : IsTop g (course Fell) t.fell
  pub back : IsTop g (course Back) t.back
  pub to : IsTop g (asked wanted course) t.to

-- ---- tops of ways

pub top_same : (g : Gauge) (way other : Way) (o : Option ℕ) → ((m n : Meter) → way m n → other m n) → ((m n : Meter) → other m n → way m n) → IsTop g way o → IsTop g other o
top_same g way other None to from p = λ m n w. p m n (from m n w)
top_same g way other (Some k) to from p =
    record { some = λ m. (let w = p.some m in (w.0, to m w.0 w.1, w.2)); most = λ m n w. p.most m n (from m n w) }

pub top_either : (g : Gauge) (this that : Way) (a b : Option ℕ) → IsTop g this a → IsTop g that b → IsTop g (either this that) (greater a b)
top_either g this that None None p q = λ m n w. elim w [ inl v ↦ p m n v | inr v ↦ q m n v ]
top_either g this that None (Some b) p q = top_same g that (either this that) (Some b) (λ m n w. inr w) (λ m n w. elim w [ inl v ↦ absurd (p m n v) | inr v ↦ v ]) q
top_either g this that (Some a) None p q = top_same g this (either this that) (Some a) (λ m n w. inl w) (λ m n w. elim w [ inl v ↦ v | inr v ↦ absurd (q m n v) ]) p
top_either g this that (Some a) (Some b) p q = most_either g this that a b p q

top_behind : (g : Gauge) (first second : Way) (n : ℕ) (o : Option ℕ) → IsMost g first n → IsTop g second o → IsTop g (both first second) (plus n o)
top_behind g first second n None p q = λ m k w. q w.0 k w.2
top_behind g first second n (Some b) p q = most_both g first second n b p q

-- ---- tops of courses

module _ (g : Gauge) (wanted : Option ℕ) where
  abbrev Fits : Course → Tops → Type 0
  Fits course t = AreTops g wanted course t

  fits_falling : (way : Way) (n : ℕ) → IsMost g way n → Fits (falling way) (tops.falling n)
  fits_falling way n p = record { fell = p; back = λ m k w. w; to = λ m k w. w.2 }

  fits_returning : (way : Way) (n : ℕ) → IsMost g way n → Fits (returning way) (tops.returning n)
  fits_returning way n p = record { fell = λ m k w. w; back = p; to = λ m k w. w.2 }

  fits_reaching : (point : ℕ) (way : Way) (n : ℕ) → IsMost g way n → Fits (reaching point way) (if meets wanted point then tops.reaching n else tops.nowhere)
  fits_reaching point way n p = by (meets wanted point) refl
    where
      not_fell : (m k : Meter) → reaching point way Fell m k → ⊥
      not_fell m k (e, w) = absurd (cc)

      not_back : (m k : Meter) → reaching point way Back m k → ⊥
      not_back m k (e, w) = absurd (cc)

      not_to : (other : ℕ) → meets wanted other ≡ true → To other ≡ To point → meets wanted point ≡ false → ⊥
      not_to other h same e = let is : other ≡ point = cc in absurd (cc)

      by : (b : Bool) → meets wanted point ≡ b → Fits (reaching point way) (if b then tops.reaching n else tops.nowhere)
      by true e =
          record {
            fell = not_fell;
            back = not_back;
            to = top_same g way (asked wanted (reaching point way)) (Some n) (λ m k w. (point, e, (refl, w))) (λ m k w. w.2.1) p;
          }
      by false e =
          record {
            fell = not_fell;
            back = not_back;
            to = λ m k w. not_to w.0 w.1 w.2.0 e;
          }

  fits_behind : (way : Way) (course : Course) (n : ℕ) (t : Tops) → IsMost g way n → Fits course t → Fits (behind way course) (tops.behind n t)
  fits_behind way course n t p q =
      record {
        fell = top_behind g way (course Fell) n t.fell p q.fell;
        back = top_behind g way (course Back) n t.back p q.back;
        to =
            top_same g (both way (asked wanted course)) (asked wanted (behind way course)) (plus n t.to)
            (λ m k w. (w.2.0, w.2.1, (w.0, w.1, w.2.2))) (λ m k w. (w.2.0, w.2.1, (w.0, w.1, w.2.2))) (top_behind g way (asked wanted course) n t.to p q.to);
      }

  fits_else : (this that : Course) (a b : Tops) → Fits this a → Fits that b → Fits (or_else this that) (tops.or_else a b)
  fits_else this that a b p q =
      record {
        fell = top_either g (this Fell) (that Fell) a.fell b.fell p.fell q.fell;
        back = top_either g (this Back) (that Back) a.back b.back p.back q.back;
        to = top_same g (either (asked wanted this) (asked wanted that)) (asked wanted (or_else this that)) (greater a.to b.to) apart together (top_either g (asked wanted this) (asked wanted that) a.to b.to p.to q.to);
      }
    where
      apart : (m k : Meter) → either (asked wanted this) (asked wanted that) m k → asked wanted (or_else this that) m k
      apart m k (inl w) = (w.0, w.1, inl w.2)
      apart m k (inr w) = (w.0, w.1, inr w.2)

      together : (m k : Meter) → asked wanted (or_else this that) m k → either (asked wanted this) (asked wanted that) m k
      together m k (point, e, inl w) = inl (point, e, w)
      together m k (point, e, inr w) = inr (point, e, w)

  fits_from : (way : Way) (o : Option ℕ) (course : Course) (t : Tops) → IsTop g way o → Fits course t → Fits (behind way course) (on_from o t)
  fits_from way None course t p q = record { fell = λ m k w. p m w.0 w.1; back = λ m k w. p m w.0 w.1; to = λ m k w. p m w.2.0 w.2.1 }
  fits_from way (Some n) course t p q = fits_behind way course n t p q

  fits_leaving : (course : Course) (t : Tops) → Fits course t → Fits (leaving course) (tops.leaving t)
  fits_leaving course t p = record { fell = λ m k w. w; back = p.back; to = p.to }

  fits_on : (first second : Course) (a b : Tops) → Fits first a → Fits second b → Fits (and_on first second) (tops.and_on a b)
  fits_on first second a b p q =
      fits_else (behind (first Fell) second) (leaving first) (on_from a.fell b) (tops.leaving a) (fits_from (first Fell) a.fell second b p.fell q) (fits_leaving first a p)

  fits_through : {X : Type 0} (course : X → Course) (top : X → Tops) → ((x : X) → Fits (course x) (top x)) → (xs : List X) → Fits (courses_through course xs) (tops_through (map top xs))
  fits_through course top p [] = fits_falling here 0 (most_here g)
  fits_through course top p (x ∷ xs) = fits_on (course x) (courses_through course xs) (top x) (tops_through (map top xs)) (p x) (fits_through course top p xs)

  abbrev tested : Way → Way
  tested test = both test (both one one)

  abbrev so_much : ℕ → ℕ
  so_much n = n + (in_step g + in_step g)

  most_tested : (test : Way) (n : ℕ) → IsMost g test n → IsMost g (tested test) (so_much n)
  most_tested test n p = most_both g test (both one one) n (in_step g + in_step g) p (most_both g one one (in_step g) (in_step g) (most_one g) (most_one g))

  fits_turning : (most : ℕ) (test : Way) (n : ℕ) (body : Course) (t : Tops) → IsMost g test n → Fits body t → Fits (turning most test body) (tops.turning g most n t)
  fits_turning zero test n body t p q = fits_falling (tested test) (so_much n) (most_tested test n p)
  fits_turning (suc more) test n body t p q =
      let next : Course = behind one (turning more test body) in
      let after : Tops = tops.behind (in_step g) (tops.turning g more n t) in
      fits_else (falling (tested test)) (behind (tested test) (and_on body next)) (tops.falling (so_much n)) (tops.behind (so_much n) (tops.and_on t after)) (fits_falling (tested test) (so_much n) (most_tested test n p))
      (fits_behind (tested test) (and_on body next) (so_much n) (tops.and_on t after) (most_tested test n p)
      (fits_on body next t after q (fits_behind one (turning more test body) (in_step g) (tops.turning g more n t) (most_one g) (fits_turning more test n body t p q))))

  -- ---- statements and pieces

  module _ (ways : ℕ → Way) (calls : ℕ → ℕ) (all : (f : ℕ) → IsMost g (ways f) (calls f)) where
    abbrev Q : Stmt → Type 0
    Q stmt = Fits (course_by ways stmt) (stmt_tops g wanted calls stmt)

    abbrev Known : Type 0
    Known = (stmt : Stmt) × Q stmt

    abbrev tree : Known → Stmt
    tree k = k.0

    abbrev course : List Known → Course
    course ks = courses_through (course_by ways) (map tree ks)

    abbrev top : List Known → Tops
    top ks = tops_through (map (stmt_tops g wanted calls) (map tree ks))

    fits_list : (ks : List Known) → Fits (course ks) (top ks)
    fits_list [] = fits_falling here 0 (most_here g)
    fits_list (k ∷ ks) = fits_on (course_by ways k.0) (course ks) (stmt_tops g wanted calls k.0) (top ks) k.1 (fits_list ks)

    most_then : (e : Expr) (next : Way) (n : ℕ) → IsMost g next n → IsMost g (both (expr_way ways e) next) (expr_most g calls e + n)
    most_then e next n p = most_both g (expr_way ways e) next (expr_most g calls e) n (most_expr g ways calls all e) p

    fits_value : (e : Expr) (next : Way) (n : ℕ) → IsMost g next n → Fits (falling (both (expr_way ways e) next)) (tops.falling (expr_most g calls e + n))
    fits_value e next n p = fits_falling (both (expr_way ways e) next) (expr_most g calls e + n) (most_then e next n p)

    fits_tested : (test : Expr) (course : Course) (t : Tops) → Fits course t → Fits (behind (both (expr_way ways test) one) course) (tops.behind (expr_most g calls test + in_step g) t)
    fits_tested test course t p = fits_behind (both (expr_way ways test) one) course (expr_most g calls test + in_step g) t (most_then test one (in_step g) (most_one g)) p

    fits_or_not : (course : Course) (t : Tops) → Fits course t → Fits (or_else course (falling here)) (tops.or_else t (tops.falling 0))
    fits_or_not course t p = fits_else course (falling here) t (tops.falling 0) p (fits_falling here 0 (most_here g))

    step_fits : (y : Stmt-F Known) → Fits (course_step ways Stmt (λ y. y) (course_by ways) (map-Stmt Known Stmt tree y)) (stmt_tops_step g wanted calls (map-Stmt Stmt Tops (stmt_tops g wanted calls) (map-Stmt Known Stmt tree y)))
    step_fits (Stmt-F.Set slot value) = fits_value value one (in_step g) (most_one g)
    step_fits (Stmt-F.SetCopy variable value) = fits_value value one (in_step g) (most_one g)
    step_fits (Stmt-F.SetCell slot index value) = fits_value index (both (expr_way ways value) one) (expr_most g calls value + in_step g) (most_then value one (in_step g) (most_one g))
    step_fits (Stmt-F.If test branch None) = fits_tested test (or_else (course branch) (falling here)) (tops.or_else (top branch) (tops.falling 0)) (fits_or_not (course branch) (top branch) (fits_list branch))
    step_fits (Stmt-F.If test branch (Some other)) =
        let this : Course = and_on (course branch) (falling one) in
        let its : Tops = tops.and_on (top branch) (tops.falling (in_step g)) in
        fits_tested test (or_else this (course other)) (tops.or_else its (top other))
        (fits_else this (course other) its (top other)
        (fits_on (course branch) (falling one) (top branch) (tops.falling (in_step g)) (fits_list branch) (fits_falling one (in_step g) (most_one g))) (fits_list other))
    step_fits (Stmt-F.Bounded test most body) =
        fits_behind one (turning most (expr_way ways test) (course body)) (in_step g) (tops.turning g most (expr_most g calls test) (top body)) (most_one g)
        (fits_turning most (expr_way ways test) (expr_most g calls test) (course body) (top body) (most_expr g ways calls all test) (fits_list body))
    step_fits (Stmt-F.Timed test body) = fits_tested test (or_else (course body) (falling here)) (tops.or_else (top body) (tops.falling 0)) (fits_or_not (course body) (top body) (fits_list body))
    step_fits (Stmt-F.Send value stream after clock) = let send : Sending = record { stream = stream; after = after; clock = clock } in fits_value value (sending send) (in_send g stream) (most_sending g send)
    step_fits (Stmt-F.Advance point) = fits_reaching point one (in_step g) (most_one g)
    step_fits (Stmt-F.Return value) = fits_returning (both (expr_way ways value) one) (expr_most g calls value + in_step g) (most_then value one (in_step g) (most_one g))

    layer : (y : Stmt-F Known) → Q (roll-Stmt (map-Stmt Known Stmt tree y))
    layer y =
        let x : Stmt-F Stmt = map-Stmt Known Stmt tree y in
        subst (λ c. Fits c (stmt_tops g wanted calls (roll-Stmt x))) (sym (rec-roll-Stmt Course (course_step ways) (natural_stmt ways) x))
        (subst (Fits (course_step ways Stmt (λ y. y) (course_by ways) x)) (sym (fold-roll-Stmt Tops (stmt_tops_step g wanted calls) x)) (step_fits y))

    fits_stmt : (stmt : Stmt) → Q stmt
    fits_stmt = ind-Stmt Q (λ x y is. subst (λ z. Q (roll-Stmt z)) is (layer y))

    pub fits_stmts : (stmts : List Stmt) → Fits (courses_through (course_by ways) stmts) (stmts_tops g wanted calls stmts)
    fits_stmts stmts = fits_through (course_by ways) (stmt_tops g wanted calls) fits_stmt stmts

    fits_piece : (piece : Piece) → Fits (piece_course ways piece) (piece_tops g wanted calls piece)
    fits_piece (Do stmt) = fits_stmt stmt
    fits_piece Hop = fits_falling one (in_step g) (most_one g)

    pub fits_pieces : (pieces : List Piece) → Fits (courses_through (piece_course ways) pieces) (pieces_tops g wanted calls pieces)
    fits_pieces pieces = fits_through (piece_course ways) (piece_tops g wanted calls) fits_piece pieces
