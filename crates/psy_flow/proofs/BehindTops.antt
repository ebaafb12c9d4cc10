-- The rests of statements, and their tops.
use Rattle.std.proofs.Common.{◌≡◌, ℕ, zero, suc, ◌+◌, ◌-◌, ◌<◌, ◌≤◌, ◌≢◌, List, [], ◌∷◌, ◌++◌, drop, length, get_or, Option, Some, refl, sym, ap, subst, ◌∙◌, arith}
use Rattle.std.proofs.lemmas.List.{length-append, length-map, drop_all, get_or_append_left}
use Rattle.psy_tree.specs.declared.unit.Expr.{Expr}
use Rattle.psy_tree.specs.declared.unit.Stmt.{Stmt, roll-Stmt, para-roll-Stmt, ind-Stmt}
use Rattle.psy_tree.specs.declared.unit.Stmt.TheVariants as stmt
use Rattle.psy_tree.specs.declared.unit.Stmt.TheOpen.{Stmt-F}
use Rattle.psy_meaning.specs.Statements.{Piece, Do, Hop}
use Rattle.psy_meaning.specs.Rest.{Rests, each_then, pieces_of, rests_step, rests_of, rest, rests_of_list}
use Rattle.psy_flow.specs.declared.gauge.Gauge.{Gauge}
use Rattle.psy_flow.specs.declared.tops.Tops.{Tops}
use Rattle.psy_flow.specs.declared.points.Search.{Search}
use Rattle.psy_flow.specs.declared.points.Search.TheVariants as search
use Rattle.psy_flow.specs.Tops.{in_step, falling, behind, or_else, on_from, leaving, stmt_tops, stmts_tops, pieces_tops, capped_tops}
use Rattle.psy_flow.specs.Behind.{IsBehind}
use Rattle.psy_flow.proofs.Rests.{rests_advance, rests_if_else, rests_timed, rests_dropped, get_or-append_second, get_or-each_then}
use Rattle.psy_flow.proofs.PointTops.{capped-falling_zero, capped-more, capped-hop, capped-hop_stmt, capped-hop_stmts, capped-pieces_of}

-- A statement that is none of those that may hold an `advance`
pub record Bare (t : Stmt) : Type 0 where
  pub advance : (point : ℕ) → t ≢ stmt.Advance point
  pub branches : (test : Expr) (branch : List Stmt) (other : Option (List Stmt)) → t ≢ stmt.If test branch other
  pub timed : (test : Expr) (body : List Stmt) → t ≢ stmt.Timed test body
  pub bounded : (test : Expr) (most : ℕ) (body : List Stmt) → t ≢ stmt.Bounded test most body

bare_layer : (x : Stmt-F Stmt) → Bare (roll-Stmt x) → rests_of (roll-Stmt x) ≡ []
bare_layer (Stmt-F.Advance point) h = absurd (h.advance point (stmt.rolls-Advance point))
bare_layer (Stmt-F.If test branch other) h = absurd (h.branches test branch other (stmt.rolls-If test branch other))
bare_layer (Stmt-F.Timed test body) h = absurd (h.timed test body (stmt.rolls-Timed test body))
bare_layer (Stmt-F.Bounded test most body) h = absurd (h.bounded test most body (stmt.rolls-Bounded test most body))
bare_layer x h = para-roll-Stmt Rests rests_step x

pub rests_bare : (t : Stmt) → Bare t → rests_of t ≡ []
rests_bare = ind-Stmt (λ t. Bare t → rests_of t ≡ []) (λ x y is. bare_layer x)

pub nothing_in : (t : Stmt) (n : ℕ) → Bare t → n ≡ length (rests_of t) + n
nothing_in t n h = omega (arith, ap length (rests_bare t h))

module _ (g : Gauge) (wanted : Option ℕ) (calls : ℕ → ℕ) where
  abbrev Here : Rests → ℕ → Search → Type 0
  Here = IsBehind g wanted calls

  -- What the program answers for two tops one after the other
  abbrev joined : Tops → Tops → Tops
  joined first second = or_else (capped_tops g (on_from first.fell second)) (leaving first)

  -- ---- found, and further on

  found_first : (t : Tops) (xs ys : Rests) (n : ℕ) → Here xs n (search.Found t) → Here (xs ++ ys) n (search.Found t)
  found_first t xs ys n h = (omega (arith, h.0, length-append xs ys), h.1 ∙ sym (ap (λ ps. capped_tops g (pieces_tops g wanted calls ps)) (get_or_append_left xs ys [] n h.0)))

  found_each : (t second both : Tops) (xs : Rests) (ps : List Piece) (n : ℕ) → Here xs n (search.Found t) → second ≡ capped_tops g (pieces_tops g wanted calls ps) → both ≡ joined t second → Here (each_then xs ps) n (search.Found both)
  found_each t second both xs ps n h q e = (
    omega (arith, h.0, length-map xs (λ r. r ++ ps)),
    capped-more g wanted calls (get_or xs n []) ps t second both h.1 q e ∙ sym (ap (λ r. capped_tops g (pieces_tops g wanted calls r)) (get_or-each_then xs ps n h.0)),
  )

  further_each : (left : ℕ) (xs : Rests) (ps : List Piece) (n : ℕ) → Here xs n (search.Further left) → Here (each_then xs ps) n (search.Further left)
  further_each left xs ps n h = omega (arith, h, length-map xs (λ r. r ++ ps))

  behind_second : (r : Search) (xs ys : Rests) (n left : ℕ) → Here xs n (search.Further left) → Here ys left r → Here (xs ++ ys) n r
  behind_second (search.Found t) xs ys n left passed h = (
    omega (arith, passed, h.0, length-append xs ys),
    h.1 ∙ sym (ap (λ ps. capped_tops g (pieces_tops g wanted calls ps)) (get_or-append_second xs ys n left passed)),
  )
  behind_second (search.Further m) xs ys n left passed h = omega (arith, passed, h, length-append xs ys)

  -- ---- one statement further

  pub found_here : (t second both : Tops) (stmts : List Stmt) (i : ℕ) (x : Stmt) (n : ℕ) → i < length stmts → x ≡ get_or stmts i x → Here (rests_of x) n (search.Found t) →
      second ≡ capped_tops g (stmts_tops g wanted calls (drop (i + 1) stmts)) → both ≡ joined t second → Here (rests_of_list (drop i stmts)) n (search.Found both)
  found_here t second both stmts i x n h e here q is =
      let P : Rests → Type 0 = λ rests. Here rests n (search.Found both) in
      let after : List Stmt = drop (i + 1) stmts in
      subst P (sym (rests_dropped stmts i x h e))
      (found_first both (each_then (rests_of x) (pieces_of after)) (rests_of_list after) n
      (found_each t second both (rests_of x) (pieces_of after) n here (q ∙ capped-pieces_of g wanted calls after) is))

  pub further_on : (r : Search) (stmts : List Stmt) (i : ℕ) (x : Stmt) (n left : ℕ) → i < length stmts → x ≡ get_or stmts i x → Here (rests_of x) n (search.Further left) → Here (rests_of_list (drop (i + 1) stmts)) left r →
      Here (rests_of_list (drop i stmts)) n r
  further_on r stmts i x n left h e passed after =
      let P : Rests → Type 0 = λ rests. Here rests n r in
      let pieces : List Piece = pieces_of (drop (i + 1) stmts) in
      subst P (sym (rests_dropped stmts i x h e))
      (behind_second r (each_then (rests_of x) pieces) (rests_of_list (drop (i + 1) stmts)) n left (further_each left (rests_of x) pieces n passed) after)

  pub none_left : (stmts : List Stmt) (i n : ℕ) → length stmts ≤ i → Here (rests_of_list (drop i stmts)) n (search.Further n)
  none_left stmts i n h =
      let P : List Stmt → Type 0 = λ ss. Here (rests_of_list ss) n (search.Further n) in
      let none : Here (rests_of_list []) n (search.Further n) = omega arith in
      subst P (sym (drop_all i stmts h)) none

  -- ---- within statements

  pub advance_found : (t : Tops) (point n : ℕ) → n ≡ 0 → t ≡ falling 0 → Here (rests_of (stmt.Advance point)) n (search.Found t)
  advance_found t point n e is =
      let P : Rests → Type 0 = λ rests. Here rests n (search.Found t) in
      let Q : ℕ → Type 0 = λ k. Here ([] ∷ []) k (search.Found t) in
      subst P (sym (rests_advance point)) (subst Q (sym e) (omega arith, is ∙ sym (capped-falling_zero g)))

  pub if_found : (t second both : Tops) (test : Expr) (branch other : List Stmt) (n : ℕ) → Here (rests_of_list branch) n (search.Found t) → second ≡ falling (in_step g) → both ≡ joined t second →
      Here (rests_of (stmt.If test branch (Some other))) n (search.Found both)
  if_found t second both test branch other n here q is =
      let P : Rests → Type 0 = λ rests. Here rests n (search.Found both) in
      subst P (sym (rests_if_else test branch other))
      (found_first both (each_then (rests_of_list branch) (Hop ∷ [])) (rests_of_list other) n
      (found_each t second both (rests_of_list branch) (Hop ∷ []) n here (q ∙ capped-hop g wanted calls) is))

  pub if_further : (r : Search) (test : Expr) (branch other : List Stmt) (n left : ℕ) → Here (rests_of_list branch) n (search.Further left) → Here (rests_of_list other) left r → Here (rests_of (stmt.If test branch (Some other))) n r
  if_further r test branch other n left passed after =
      let P : Rests → Type 0 = λ rests. Here rests n r in
      subst P (sym (rests_if_else test branch other))
      (behind_second r (each_then (rests_of_list branch) (Hop ∷ [])) (rests_of_list other) n left (further_each left (rests_of_list branch) (Hop ∷ []) n passed) after)

  pub timed_found : (t second both : Tops) (test : Expr) (body : List Stmt) (n : ℕ) → Here (rests_of_list body) n (search.Found t) → second ≡ capped_tops g (behind (in_step g) (capped_tops g (stmt_tops g wanted calls (stmt.Timed test body)))) →
      both ≡ joined t second → Here (rests_of (stmt.Timed test body)) n (search.Found both)
  timed_found t second both test body n here q is =
      let P : Rests → Type 0 = λ rests. Here rests n (search.Found both) in
      let loop : Stmt = stmt.Timed test body in
      subst P (sym (rests_timed test body)) (found_each t second both (rests_of_list body) (Hop ∷ Do loop ∷ []) n here (q ∙ capped-hop_stmt g wanted calls loop) is)

  pub timed_further : (left : ℕ) (test : Expr) (body : List Stmt) (n : ℕ) → Here (rests_of_list body) n (search.Further left) → Here (rests_of (stmt.Timed test body)) n (search.Further left)
  timed_further left test body n passed =
      let P : Rests → Type 0 = λ rests. Here rests n (search.Further left) in
      subst P (sym (rests_timed test body)) (further_each left (rests_of_list body) (Hop ∷ Do (stmt.Timed test body) ∷ []) n passed)

  -- ---- from a point

  pub from_head : (t : Tops) (stmts : List Stmt) (point : ℕ) → point ≡ 0 → t ≡ capped_tops g (stmts_tops g wanted calls stmts) → t ≡ capped_tops g (pieces_tops g wanted calls (rest stmts point))
  from_head t stmts zero e is = is ∙ capped-pieces_of g wanted calls stmts
  from_head t stmts (suc n) e is = absurd (omega arith)

  pub from_point : (t second both : Tops) (stmts : List Stmt) (point : ℕ) → point ≢ 0 → Here (rests_of_list stmts) (point - 1) (search.Found t) →
      second ≡ capped_tops g (behind (in_step g) (capped_tops g (stmts_tops g wanted calls stmts))) → both ≡ joined t second → both ≡ capped_tops g (pieces_tops g wanted calls (rest stmts point))
  from_point t second both stmts zero h here q is = absurd (h refl)
  from_point t second both stmts (suc n) h here q is =
      let e : suc n - 1 ≡ n = omega arith in
      let first : t ≡ capped_tops g (pieces_tops g wanted calls (get_or (rests_of_list stmts) n [])) = here.1 ∙ ap (λ m. capped_tops g (pieces_tops g wanted calls (get_or (rests_of_list stmts) m []))) e in
      capped-more g wanted calls (get_or (rests_of_list stmts) n []) (Hop ∷ pieces_of stmts) t second both first (q ∙ capped-hop_stmts g wanted calls stmts) is
