-- Each send of an agent's text is met by a way: from the head of its body, or from behind one of its `advance` statements.
use Rattle.std.proofs.Common.{◌≡◌, ◌⊎◌, ℕ, zero, suc, ◌+◌, ◌<◌, ◌≤◌, false, true, List, [], ◌∷◌, ◌++◌, map, length, Some, None, refl, sym, ap, subst, ◌∙◌, inl, inr, arith}
use Rattle.std.specs.Prelude.{slice_index_or}
use Rattle.psy_tree.specs.declared.unit.Expr.{Expr}
use Rattle.psy_tree.specs.declared.unit.Stmt.{Stmt, roll-Stmt, fold-roll-Stmt, para-roll-Stmt, rec-roll-Stmt, map-Stmt, ind-Stmt}
use Rattle.psy_tree.specs.declared.unit.Stmt.TheOpen.{Stmt-F}
use Rattle.psy_tree.proofs.lemmas.Among.{Among, among_right}
use Rattle.psy_meaning.specs.Rest.{Rests, Part, each_then, pieces_of, stmts_in, rests_in, rests_step, rests_of, with_rests, rest}
use Rattle.psy_meaning.specs.Sendings.{sendings_step, sendings_of, sendings_in}
use Rattle.psy_meaning.specs.Sound.{Scope, Each, sound_stmt_step, IsSoundStmt, AreSound}
use Rattle.psy_meaning.specs.Statements.{Piece, Do, Hop}
use Rattle.psy_meaning.specs.Ways.{Meter, Sending, Way, Course, End, Fell, Back, To, here, one, both, falling, behind, and_on, or_else, courses_through, turning, course_step, course_by, expr_way, piece_course}
use Rattle.psy_meaning.proofs.Fronts.{FrontIn, Leads, Open, front_left, front_on, front_right, front_same, leads_behind, leads_falling, open_both, open_here, open_one}
use Rattle.psy_meaning.proofs.OpenWays.{leads_pieces, leads_stmts, leads_turning, open_expr, open_two, two}
use Rattle.psy_meaning.proofs.lemmas.Layers.{natural_stmt}
use Rattle.psy_meaning.proofs.lemmas.RestPieces.{stmts_are}
use Rattle.psy_meaning.proofs.lemmas.SoundParts.{stmts_natural}

-- ---- some of a list

-- One of them has it.
abbrev Any : {X : Type 0} → (X → Type 0) → List X → Type 0
Any P [] = ⊥
Any P (x ∷ xs) = P x ⊎ Any P xs

any_first : {X : Type 0} (P : X → Type 0) (xs ys : List X) → Any P xs → Any P (xs ++ ys)
any_first P [] ys h = absurd h
any_first P (x ∷ xs) ys (inl h) = inl h
any_first P (x ∷ xs) ys (inr h) = inr (any_first P xs ys h)

any_second : {X : Type 0} (P : X → Type 0) (xs ys : List X) → Any P ys → Any P (xs ++ ys)
any_second P [] ys h = h
any_second P (x ∷ xs) ys h = inr (any_second P xs ys h)

any_then : (P Q : List Piece → Type 0) (rests : Rests) (pieces : List Piece) → ((r : List Piece) → P r → Q (r ++ pieces)) → Any P rests → Any Q (each_then rests pieces)
any_then P Q [] pieces f h = absurd h
any_then P Q (r ∷ rs) pieces f (inl h) = inl (f r h)
any_then P Q (r ∷ rs) pieces f (inr h) = inr (any_then P Q rs pieces f h)

any_at : (P : List Piece → Type 0) (rests : Rests) → Any P rests → (n : ℕ) × (n < length rests) × P (slice_index_or rests n [])
any_at P [] h = absurd h
any_at P (r ∷ rs) (inl h) = (0, omega arith, h)
any_at P (r ∷ rs) (inr h) = let (n, less, its) = any_at P rs h in (suc n, omega (arith, less), its)

among_either : {X : Type 0} (x : X) (xs ys : List X) → Among x (xs ++ ys) → Among x xs ⊎ Among x ys
among_either x [] ys h = inr h
among_either x (z ∷ xs) ys (inl e) = inl (inl e)
among_either x (z ∷ xs) ys (inr h) = elim (among_either x xs ys h) [ inl first ↦ inl (inr first) | inr other ↦ inr other ]

-- ---- courses that fall through

-- From whatever was met a way falls through.
abbrev Falls : Course → Type 0
Falls course = (m : Meter) → (n : Meter) × course Fell m n

falls_falling : (way : Way) → Open way → Falls (falling way)
falls_falling way p m = let w = p m in (w.0, w.1)

falls_behind : (way : Way) (course : Course) → Open way → Falls course → Falls (behind way course)
falls_behind way course p q m = let (k, v, f) = p m in let (n, w) = q k in (n, (k, v, w))

falls_left : (this that : Course) → Falls this → Falls (or_else this that)
falls_left this that p m = let (n, w) = p m in (n, inl w)

falls_right : (this that : Course) → Falls that → Falls (or_else this that)
falls_right this that p m = let (n, w) = p m in (n, inr w)

falls_on : (first second : Course) → Falls first → Falls second → Falls (and_on first second)
falls_on first second p q m = let (k, v) = p m in let (n, w) = q k in (n, inl (k, v, w))

falls_turning : (most : ℕ) (test : Way) (body : Course) → Open test → Falls (turning most test body)
falls_turning zero test body p = falls_falling (both test two) (open_both test two p open_two)
falls_turning (suc more) test body p =
    falls_left (falling (both test two)) (behind (both test two) (and_on body (behind one (turning more test body)))) (falls_falling (both test two) (open_both test two p open_two))

-- ---- pieces

module _ (ways : ℕ → Way) where
  abbrev through : List Piece → Course
  through pieces = courses_through (piece_course ways) pieces

  -- Through some pieces and on through others is through all of them.
  all_through : (first second : List Piece) (end : End) (m n : Meter) → and_on (through first) (through second) end m n → through (first ++ second) end m n
  all_through [] second end m n (inl (k, e, w)) = subst (λ j. through second end j n) e w
  all_through [] second Fell m n (inr w) = absurd w
  all_through [] second Back m n (inr w) = absurd w
  all_through [] second (To point) m n (inr w) = absurd w
  all_through (p ∷ ps) second end m n (inl (k, inl (j, v, u), w)) = inl (j, v, all_through ps second end j n (inl (k, u, w)))
  all_through (p ∷ ps) second end m n (inl (k, inr v, w)) = absurd v
  all_through (p ∷ ps) second Fell m n (inr w) = absurd w
  all_through (p ∷ ps) second Back m n (inr (inl (j, v, u))) = inl (j, v, all_through ps second Back j n (inr u))
  all_through (p ∷ ps) second Back m n (inr (inr w)) = inr w
  all_through (p ∷ ps) second (To point) m n (inr (inl (j, v, u))) = inl (j, v, all_through ps second (To point) j n (inr u))
  all_through (p ∷ ps) second (To point) m n (inr (inr w)) = inr w

  -- Statements as pieces go the same ways.
  same_pieces : (stmts : List Stmt) → courses_through (course_by ways) stmts ≡ through (pieces_of stmts)
  same_pieces [] = refl
  same_pieces (x ∷ xs) = ap (and_on (course_by ways x)) (same_pieces xs)

  falls_append : (first second : List Piece) → Falls (through first) → Falls (through second) → Falls (through (first ++ second))
  falls_append first second p q m = let (n, w) = falls_on (through first) (through second) p q m in (n, all_through first second Fell m n w)

module _ (x : Sending) where
  -- ---- courses that meet the send

  -- From whatever was met a way meets the send.
  abbrev pub Meets : Course → Type 0
  Meets course = (m : Meter) → (k : Meter) × Among x k.sends × FrontIn course m k

  meets_behind : (way : Way) (course : Course) → Open way → Meets course → Meets (behind way course)
  meets_behind way course p q m = let (n, w, f) = p m in let (k, there, (end, o, v, g)) = q n in (k, there, (end, o, (n, w, v), g))

  meets_left : (this that : Course) → Meets this → Meets (or_else this that)
  meets_left this that p m = let (k, there, front) = p m in (k, there, front_left this that m k front)

  meets_right : (this that : Course) → Meets that → Meets (or_else this that)
  meets_right this that p m = let (k, there, front) = p m in (k, there, front_right this that m k front)

  meets_on : (first second : Course) → Meets first → Leads second → Meets (and_on first second)
  meets_on first second p q m = let (k, there, front) = p m in (k, there, front_on first second m k front q)

  meets_next : (first second : Course) → Falls first → Meets second → Meets (and_on first second)
  meets_next first second p q m = let (n, w) = p m in let (k, there, (end, o, v, g)) = q n in (k, there, (end, o, inl (n, w, v), g))

  -- In its first turn
  meets_turning : (most : ℕ) (test : Way) (body : Course) → 1 ≤ most → Open test → Meets body → Meets (turning most test body)
  meets_turning zero test body some p q = absurd (omega (arith, some))
  meets_turning (suc more) test body some p q =
      let out : Way = both test two in
      let next : Course = behind one (turning more test body) in
      meets_right (falling out) (behind out (and_on body next))
      (meets_behind out (and_on body next) (open_both test two p open_two) (meets_on body next q (leads_behind one (turning more test body) open_one (leads_turning more test body p))))

  module _ (ways : ℕ → Way) (all : (number : ℕ) → Open (ways number)) where
    meets_append : (first second : List Piece) → Meets (through ways first) → Meets (through ways (first ++ second))
    meets_append first second p m =
        let (k, there, (end, n, w, g)) = meets_on (through ways first) (through ways second) p (leads_pieces ways all second) m in
        (k, there, (end, n, all_through ways first second end m n w, g))

    meets_later : (first second : List Piece) → Falls (through ways first) → Meets (through ways second) → Meets (through ways (first ++ second))
    meets_later first second p q m =
        let (k, there, (end, n, w, g)) = meets_next (through ways first) (through ways second) p q m in (k, there, (end, n, all_through ways first second end m n w, g))

    -- ---- statements

    abbrev FallsOn : List Piece → Type 0
    FallsOn pieces = Falls (through ways pieces)

    abbrev MeetsOn : List Piece → Type 0
    MeetsOn pieces = Meets (through ways pieces)

    -- A way falls through, from its start or from behind one of its `advance` statements.
    abbrev Goes : Course → Rests → Type 0
    Goes course rests = Falls course ⊎ Any FallsOn rests

    -- So one meets the send.
    abbrev Finds : Course → Rests → Type 0
    Finds course rests = Meets course ⊎ Any MeetsOn rests

    module _ (scope : Scope) (forward : scope.returns ≡ false) where
      record Q (stmt : Stmt) : Type 0 where
        goes : Goes (course_by ways stmt) (rests_of stmt)
        finds : Among x (sendings_of stmt) → Finds (course_by ways stmt) (rests_of stmt)

      abbrev stmts : List Stmt → Course
      stmts ss = courses_through (course_by ways) ss

      abbrev rests : List Stmt → Rests
      rests ss = rests_in (map with_rests ss)

      -- The pieces behind a statement
      abbrev later : List Stmt → List Piece
      later ss = pieces_of (stmts_in (map with_rests ss))

      same_later : (ss : List Stmt) → stmts ss ≡ through ways (later ss)
      same_later ss = same_pieces ways ss ∙ ap (λ ys. through ways (pieces_of ys)) (sym (stmts_are ss))

      goes_through : (ss : List Stmt) → Each Q ss → Goes (stmts ss) (rests ss)
      goes_through [] h = inl (falls_falling here open_here)
      goes_through (s ∷ ss) h = elim (goes_through ss h.1) [
        | inr others ↦ inr (any_second FallsOn (each_then (rests_of s) (later ss)) (rests ss) others)
        | inl falls ↦ elim h.0.goes [
          | inl own ↦ inl (falls_on (course_by ways s) (stmts ss) own falls)
          | inr firsts ↦ inr (any_first FallsOn (each_then (rests_of s) (later ss)) (rests ss)
              (any_then FallsOn FallsOn (rests_of s) (later ss) (λ r f. falls_append ways r (later ss) f (subst Falls (same_later ss) falls)) firsts))
        ]
      ]

      finds_later : (s : Stmt) (ss : List Stmt) → Goes (course_by ways s) (rests_of s) → Meets (stmts ss) → Finds (stmts (s ∷ ss)) (rests (s ∷ ss))
      finds_later s ss (inl own) meets = inl (meets_next (course_by ways s) (stmts ss) own meets)
      finds_later s ss (inr firsts) meets =
          inr (any_first MeetsOn (each_then (rests_of s) (later ss)) (rests ss)
          (any_then FallsOn MeetsOn (rests_of s) (later ss) (λ r f. meets_later r (later ss) f (subst Meets (same_later ss) meets)) firsts))

      finds_through : (ss : List Stmt) → Each Q ss → Among x (sendings_in ss) → Finds (stmts ss) (rests ss)
      finds_through [] h there = absurd there
      finds_through (s ∷ ss) h there = elim (among_either x (sendings_of s) (sendings_in ss) there) [
        | inl first ↦ elim (h.0.finds first) [
          | inl own ↦ inl (meets_on (course_by ways s) (stmts ss) own (leads_stmts ways all ss))
          | inr firsts ↦ inr (any_first MeetsOn (each_then (rests_of s) (later ss)) (rests ss) (any_then MeetsOn MeetsOn (rests_of s) (later ss) (λ r f. meets_append r (later ss) f) firsts))
        ]
        | inr other ↦ elim (finds_through ss h.1 other) [
          | inl meets ↦ finds_later s ss h.0.goes meets
          | inr others ↦ inr (any_second MeetsOn (each_then (rests_of s) (later ss)) (rests ss) others)
        ]
      ]

      -- ---- a statement, once its parts are known

      abbrev Known : Type 0
      Known = (stmt : Stmt) × (IsSoundStmt scope stmt → Q stmt)

      abbrev tree : Known → Stmt
      tree k = k.0

      each_known : (ks : List Known) → Each (IsSoundStmt scope) (map tree ks) → Each Q (map tree ks)
      each_known [] h = tt
      each_known (k ∷ ks) h = (k.1 h.0, each_known ks h.1)

      open_then : (e : Expr) (next : Way) → Open next → Open (both (expr_way ways e) next)
      open_then e next p = open_both (expr_way ways e) next (open_expr ways all e) p

      abbrev hop : List Piece
      hop = Hop ∷ []

      falls_hop : Falls (through ways hop)
      falls_hop = falls_on (falling one) (falling here) (falls_falling one open_one) (falls_falling here open_here)

      goes_step : (y : Stmt-F Known) → let z = map-Stmt Known Stmt tree y in sound_stmt_step scope Stmt (λ y. y) (IsSoundStmt scope) z → Goes (course_step ways Stmt (λ y. y) (course_by ways) z) (rests_step (map-Stmt Stmt Part with_rests z))
      goes_step (Stmt-F.Set slot value) h = inl (falls_falling (both (expr_way ways value) one) (open_then value one open_one))
      goes_step (Stmt-F.SetCopy variable value) h = inl (falls_falling (both (expr_way ways value) one) (open_then value one open_one))
      goes_step (Stmt-F.SetCell slot index value) h =
          inl (falls_falling (both (expr_way ways index) (both (expr_way ways value) one)) (open_then index (both (expr_way ways value) one) (open_then value one open_one)))
      goes_step (Stmt-F.If test branch None) h =
          let this : Course = stmts (map tree branch) in
          inl (falls_behind (both (expr_way ways test) one) (or_else this (falling here)) (open_then test one open_one) (falls_right this (falling here) (falls_falling here open_here)))
      goes_step (Stmt-F.If test branch (Some other)) h =
          let this : Course = stmts (map tree branch) in
          let that : Course = stmts (map tree other) in
          let skip = falling one in
          elim (goes_through (map tree branch) (each_known branch h.1)) [
            | inl falls ↦ inl (falls_behind (both (expr_way ways test) one) (or_else (and_on this skip) that) (open_then test one open_one)
                (falls_left (and_on this skip) that (falls_on this skip falls (falls_falling one open_one))))
            | inr firsts ↦ inr (any_first FallsOn (each_then (rests (map tree branch)) hop) (rests (map tree other))
                (any_then FallsOn FallsOn (rests (map tree branch)) hop (λ r f. falls_append ways r hop f falls_hop) firsts))
          ]
      goes_step (Stmt-F.Bounded test most body) h =
          inl (falls_behind one (turning most (expr_way ways test) (stmts (map tree body))) open_one (falls_turning most (expr_way ways test) (stmts (map tree body)) (open_expr ways all test)))
      goes_step (Stmt-F.Timed test body) h =
          let inner : Course = stmts (map tree body) in
          inl (falls_behind (both (expr_way ways test) one) (or_else inner (falling here)) (open_then test one open_one) (falls_right inner (falling here) (falls_falling here open_here)))
      goes_step (Stmt-F.Send value stream after clock) h =
          let send : Sending = record { stream = stream; after = after; clock = clock } in
          inl (λ m. (let (n, w, f) = open_expr ways all value m in (_, (n, w, refl))))
      goes_step (Stmt-F.Advance point) h = inr (inl (falls_falling here open_here))
      goes_step (Stmt-F.Return value) h = let different : true ≡ false = sym h.0 ∙ forward in absurd cc

      finds_step : (y : Stmt-F Known) → let z = map-Stmt Known Stmt tree y in sound_stmt_step scope Stmt (λ y. y) (IsSoundStmt scope) z → Among x (sendings_step (map-Stmt Stmt (List Sending) sendings_of z))
          → Finds (course_step ways Stmt (λ y. y) (course_by ways) z) (rests_step (map-Stmt Stmt Part with_rests z))
      finds_step (Stmt-F.Set slot value) h there = absurd there
      finds_step (Stmt-F.SetCopy variable value) h there = absurd there
      finds_step (Stmt-F.SetCell slot index value) h there = absurd there
      finds_step (Stmt-F.If test branch None) h there =
          let this : Course = stmts (map tree branch) in
          elim (finds_through (map tree branch) (each_known branch h.1) there) [
            | inl meets ↦ inl (meets_behind (both (expr_way ways test) one) (or_else this (falling here)) (open_then test one open_one) (meets_left this (falling here) meets))
            | inr some ↦ inr some
          ]
      finds_step (Stmt-F.If test branch (Some other)) h there =
          let this : Course = stmts (map tree branch) in
          let that : Course = stmts (map tree other) in
          let skip = falling one in
          elim (among_either x (sendings_in (map tree branch)) (sendings_in (map tree other)) there) [
            | inl first ↦ elim (finds_through (map tree branch) (each_known branch h.1) first) [
              | inl meets ↦ inl (meets_behind (both (expr_way ways test) one) (or_else (and_on this skip) that) (open_then test one open_one)
                  (meets_left (and_on this skip) that (meets_on this skip meets (leads_falling one open_one))))
              | inr firsts ↦ inr (any_first MeetsOn (each_then (rests (map tree branch)) hop) (rests (map tree other))
                  (any_then MeetsOn MeetsOn (rests (map tree branch)) hop (λ r f. meets_append r hop f) firsts))
            ]
            | inr second ↦ elim (finds_through (map tree other) (each_known other h.2) second) [
              | inl meets ↦ inl (meets_behind (both (expr_way ways test) one) (or_else (and_on this skip) that) (open_then test one open_one) (meets_right (and_on this skip) that meets))
              | inr others ↦ inr (any_second MeetsOn (each_then (rests (map tree branch)) hop) (rests (map tree other)) others)
            ]
          ]
      finds_step (Stmt-F.Bounded test most body) h there =
          let inner : Course = stmts (map tree body) in
          elim (finds_through (map tree body) (each_known body h.2) there) [
            | inl meets ↦ inl (meets_behind one (turning most (expr_way ways test) inner) open_one (meets_turning most (expr_way ways test) inner h.1.0 (open_expr ways all test) meets))
            | inr some ↦ inr some
          ]
      finds_step (Stmt-F.Timed test body) h there =
          let inner : Course = stmts (map tree body) in
          let again : List Piece = Hop ∷ Do (roll-Stmt (Stmt-F.Timed test (stmts_in (map with_rests (map tree body))))) ∷ [] in
          elim (finds_through (map tree body) (each_known body h.2) there) [
            | inl meets ↦ inl (meets_behind (both (expr_way ways test) one) (or_else inner (falling here)) (open_then test one open_one) (meets_left inner (falling here) meets))
            | inr some ↦ inr (any_then MeetsOn MeetsOn (rests (map tree body)) again (λ r f. meets_append r again f) some)
          ]
      finds_step (Stmt-F.Send value stream after clock) h (inl e) =
          let send : Sending = record { stream = stream; after = after; clock = clock } in
          inl (λ m. (let (n, w, f) = open_expr ways all value m in
          let now : Meter = record n { steps = n.steps + 1; sends = n.sends ++ send ∷ [] } in
          (now, among_right x n.sends (send ∷ []) (inl e), (Fell, now, (n, w, refl), front_same now))))
      finds_step (Stmt-F.Send value stream after clock) h (inr none) = absurd none
      finds_step (Stmt-F.Advance point) h there = absurd there
      finds_step (Stmt-F.Return value) h there = absurd there

      layer : (y : Stmt-F Known) → IsSoundStmt scope (roll-Stmt (map-Stmt Known Stmt tree y)) → Q (roll-Stmt (map-Stmt Known Stmt tree y))
      layer y h =
          let z : Stmt-F Stmt = map-Stmt Known Stmt tree y in
          let sound = subst (λ (t : Type 0). t) (rec-roll-Stmt (Type 0) (sound_stmt_step scope) (stmts_natural scope) z) h in
          let course = sym (rec-roll-Stmt Course (course_step ways) (natural_stmt ways) z) in
          let own = sym (para-roll-Stmt Rests rests_step z) in
          record {
            goes = subst (λ c. Goes c (rests_of (roll-Stmt z))) course (subst (Goes (course_step ways Stmt (λ y. y) (course_by ways) z)) own (goes_step y sound));
            finds = λ there. subst (λ c. Finds c (rests_of (roll-Stmt z))) course (subst (Finds (course_step ways Stmt (λ y. y) (course_by ways) z)) own
                (finds_step y sound (subst (Among x) (fold-roll-Stmt (List Sending) sendings_step z) there)));
          }

      known : (stmt : Stmt) → IsSoundStmt scope stmt → Q stmt
      known = ind-Stmt (λ s. IsSoundStmt scope s → Q s) (λ z y is. subst (λ s. IsSoundStmt scope (roll-Stmt s) → Q (roll-Stmt s)) is (layer y))

      all_known : (ss : List Stmt) → AreSound scope ss → Each Q ss
      all_known [] h = tt
      all_known (s ∷ ss) h = (known s h.0, all_known ss h.1)

      -- ---- a body

      -- A way meets the send, from the head of a body or from behind one of its `advance` statements.
      pub met_from : (body : List Stmt) → AreSound scope body → Among x (sendings_in body) → (point : ℕ) × (point ≤ length (rests body)) × Meets (courses_through (piece_course ways) (rest body point))
      met_from body sound there = elim (finds_through body (all_known body sound) there) [
        | inl meets ↦ (0, omega arith, subst Meets (same_pieces ways body) meets)
        | inr some ↦ (let (n, less, meets) = any_at MeetsOn (rests body) some in (suc n, omega (arith, less), meets_append (slice_index_or (rests body) n []) (Hop ∷ pieces_of body) meets))
      ]
