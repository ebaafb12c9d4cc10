-- What is counted behind rests, where something stands behind all of them.
use Rattle.std.proofs.Common.{◌≡◌, ℕ, zero, suc, ◌+◌, ◌<◌, List, [], ◌∷◌, ◌++◌, map, reverse, drop, length, get_or, Option, Some, refl, sym, ap, subst, ◌∙◌, append_assoc, arith}
use Rattle.std.specs.Prelude.{slice_get}
use Rattle.std.proofs.lemmas.List.{map-append, length-map, reverse-append, reverse-reverse}
use Rattle.psy_lists.proofs.lemmas.Places.{drop_read}
use Rattle.psy_tree.specs.declared.unit.Expr.{Expr}
use Rattle.psy_tree.specs.declared.unit.Stmt.{Stmt}
use Rattle.psy_tree.specs.declared.unit.Stmt.TheVariants as stmt
use Rattle.psy_meaning.specs.Statements.{Piece, Do, Hop}
use Rattle.psy_meaning.specs.Rest.{Rests, each_then, pieces_of, rests_of, rests_of_list, rest}
use Rattle.psy_flow.specs.declared.gauge.Gauge.{Gauge}
use Rattle.psy_flow.specs.declared.tops.Tops.{Tops}
use Rattle.psy_flow.specs.Costs.{AreCounts, counts_then, to_point}
use Rattle.psy_flow.specs.Tops.{in_step, falling, behind, and_on, stmt_tops, stmts_tops, pieces_tops, capped_tops}
use Rattle.psy_flow.proofs.AndOns.{and_on_next}
use Rattle.psy_flow.proofs.Limits.{behind_is, step_is}
use Rattle.psy_flow.proofs.PointTops.{and_on-falling, pieces_tops-append, pieces_tops-pieces_of, capped-pieces_of, capped-hop_stmts}
use Rattle.psy_flow.proofs.Rests.{rests_advance, rests_if_else, rests_timed, rests_dropped}
use Rattle.psy_flow.proofs.Throughs.{and_on-assoc, and_on-first, and_on-last}

module _ (g : Gauge) (wanted : Option ℕ) (calls : ℕ → ℕ) where
  abbrev within : List Piece → Tops
  within = pieces_tops g wanted calls

  abbrev whole : List Stmt → Tops
  whole = stmts_tops g wanted calls

  abbrev counts : Rests → Tops → List ℕ
  counts = counts_then g wanted calls

  abbrev cut : Tops → Tops
  cut = capped_tops g

  -- ---- rests

  counts-append : (xs ys : Rests) (last : Tops) → counts (xs ++ ys) last ≡ counts xs last ++ counts ys last
  counts-append xs ys last = map-append (λ r. to_point (cut (and_on (within r) last))) xs ys

  count-more : (r ps : List Piece) (next last : Tops) → next ≡ cut (and_on (within ps) last) → cut (and_on (within (r ++ ps)) last) ≡ cut (and_on (within r) next)
  count-more r ps next last e =
      ap (λ t. cut (and_on t last)) (pieces_tops-append g wanted calls r ps)
      ∙ ap cut (and_on-assoc (within r) (within ps) last)
      ∙ sym (and_on_next g (within r) next (and_on (within ps) last) e)

  -- Pieces behind each of the rests stand before what stands behind all.
  counts-each_then : (xs : Rests) (ps : List Piece) (next last : Tops) → next ≡ cut (and_on (within ps) last) → counts (each_then xs ps) last ≡ counts xs next
  counts-each_then [] ps next last e = refl
  counts-each_then (r ∷ xs) ps next last e =
      ap (λ t. to_point t ∷ counts (each_then xs ps) last) (count-more r ps next last e)
      ∙ ap (λ ns. to_point (cut (and_on (within r) next)) ∷ ns) (counts-each_then xs ps next last e)

  -- ---- pieces that stand behind

  hop_on : (last : Tops) → and_on (within (Hop ∷ [])) last ≡ behind (in_step g) last
  hop_on last = ap (λ t. and_on t last) (and_on-last (falling (in_step g))) ∙ and_on-falling (in_step g) last

  stmt_on : (t : Stmt) (last : Tops) → and_on (within (Hop ∷ Do t ∷ [])) last ≡ behind (in_step g) (and_on (stmt_tops g wanted calls t) last)
  stmt_on t last =
      and_on-assoc (falling (in_step g)) (within (Do t ∷ [])) last
      ∙ and_on-falling (in_step g) (and_on (within (Do t ∷ [])) last)
      ∙ ap (λ x. behind (in_step g) (and_on x last)) (and_on-last (stmt_tops g wanted calls t))

  -- ---- counts that were listed, the last one first

  -- Those of what stands before the others
  listed_before : (old now later : List ℕ) (xs ys : Rests) (last : Tops) → now ≡ old ++ reverse (counts ys last) → later ≡ now ++ reverse (counts xs last) → later ≡ old ++ reverse (counts (xs ++ ys) last)
  listed_before old now later xs ys last p q =
      q ∙ ap (λ ns. ns ++ reverse (counts xs last)) p ∙ append_assoc old (reverse (counts ys last)) (reverse (counts xs last))
      ∙ ap (λ ns. old ++ ns) (sym (reverse-append (counts xs last) (counts ys last)))
      ∙ ap (λ ns. old ++ reverse ns) (sym (counts-append xs ys last))

  pub advance_listed : (old now : List ℕ) (point : ℕ) (last : Tops) → last ≡ cut last → now ≡ old ++ to_point last ∷ [] → now ≡ old ++ reverse (counts (rests_of (stmt.Advance point)) last)
  advance_listed old now point last e h =
      h ∙ ap (λ t. old ++ to_point t ∷ []) (e ∙ ap cut (sym (and_on-first last)))
      ∙ ap (λ rests. old ++ reverse (counts rests last)) (sym (rests_advance point))

  pub if_else_listed : (old now later : List ℕ) (test : Expr) (branch other : List Stmt) (jump last : Tops) → jump ≡ cut (behind (in_step g) last) → now ≡ old ++ reverse (counts (rests_of_list other) last) →
      later ≡ now ++ reverse (counts (rests_of_list branch) jump) → later ≡ old ++ reverse (counts (rests_of (stmt.If test branch (Some other))) last)
  if_else_listed old now later test branch other jump last e p q =
      let jumps : counts (each_then (rests_of_list branch) (Hop ∷ [])) last ≡ counts (rests_of_list branch) jump =
      counts-each_then (rests_of_list branch) (Hop ∷ []) jump last (e ∙ ap cut (sym (hop_on last))) in
      listed_before old now later (each_then (rests_of_list branch) (Hop ∷ [])) (rests_of_list other) last p (q ∙ ap (λ ns. now ++ reverse ns) (sym jumps))
      ∙ ap (λ rests. old ++ reverse (counts rests last)) (sym (rests_if_else test branch other))

  pub timed_listed : (old now : List ℕ) (test : Expr) (body : List Stmt) (again both last : Tops) → both ≡ cut (and_on (stmt_tops g wanted calls (stmt.Timed test body)) last) → again ≡ cut (behind (in_step g) both) →
      now ≡ old ++ reverse (counts (rests_of_list body) again) → now ≡ old ++ reverse (counts (rests_of (stmt.Timed test body)) last)
  timed_listed old now test body again both last p q h =
      let loop : Stmt = stmt.Timed test body in
      let on : again ≡ cut (and_on (within (Hop ∷ Do loop ∷ [])) last) =
      behind_is g again (in_step g) (in_step g) both (and_on (stmt_tops g wanted calls loop) last) q (step_is g) p ∙ ap cut (sym (stmt_on loop last)) in
      h ∙ ap (λ ns. old ++ reverse ns) (sym (counts-each_then (rests_of_list body) (Hop ∷ Do loop ∷ []) again last on))
      ∙ ap (λ rests. old ++ reverse (counts rests last)) (sym (rests_timed test body))

  -- ---- a statement more, before the others

  pub more_listed : (old now later : List ℕ) (stmts : List Stmt) (i : ℕ) (x : Stmt) (next last : Tops) → i < length stmts → x ≡ get_or stmts i x → next ≡ cut (and_on (whole (drop (i + 1) stmts)) last) →
      now ≡ old ++ reverse (counts (rests_of_list (drop (i + 1) stmts)) last) → later ≡ now ++ reverse (counts (rests_of x) next) → later ≡ old ++ reverse (counts (rests_of_list (drop i stmts)) last)
  more_listed old now later stmts i x next last less is e p q =
      let after : List Stmt = drop (i + 1) stmts in
      let here : counts (each_then (rests_of x) (pieces_of after)) last ≡ counts (rests_of x) next =
      counts-each_then (rests_of x) (pieces_of after) next last (e ∙ ap (λ t. cut (and_on t last)) (sym (pieces_tops-pieces_of g wanted calls after))) in
      listed_before old now later (each_then (rests_of x) (pieces_of after)) (rests_of_list after) last p (q ∙ ap (λ ns. now ++ reverse ns) (sym here))
      ∙ ap (λ rests. old ++ reverse (counts rests last)) (sym (rests_dropped stmts i x less is))

  pub more_whole : (r : Tops) (stmts : List Stmt) (i : ℕ) (x : Stmt) (next last : Tops) → i < length stmts → x ≡ get_or stmts i x → next ≡ cut (and_on (whole (drop (i + 1) stmts)) last) →
      r ≡ cut (and_on (stmt_tops g wanted calls x) next) → r ≡ cut (and_on (whole (drop i stmts)) last)
  more_whole r stmts i x next last less is e h =
      let after : List Stmt = drop (i + 1) stmts in
      h ∙ and_on_next g (stmt_tops g wanted calls x) next (and_on (whole after) last) e
      ∙ ap cut (sym (and_on-assoc (stmt_tops g wanted calls x) (whole after) last))
      ∙ ap (λ ss. cut (and_on (whole ss) last)) (sym (drop_read stmts i x less is))

  -- ---- by point

  one_of : (f : List Piece → ℕ) (rests : Rests) (n count : ℕ) → slice_get (map f rests) n ≡ Some count → count ≡ f (get_or rests n [])
  one_of f [] n count e = absurd (cc)
  one_of f (r ∷ rests) zero count e = cc
  one_of f (r ∷ rests) (suc n) count e = one_of f rests n count e

  pub are_counts : (result : List ℕ) (stmts : List Stmt) (body again : Tops) → body ≡ cut (whole stmts) → again ≡ cut (behind (in_step g) body) → result ≡ to_point body ∷ counts (rests_of_list stmts) again →
      AreCounts g wanted calls stmts result
  are_counts result stmts body again p q e =
      subst (AreCounts g wanted calls stmts) (sym e)
      (record {
        count = omega (arith, length-map (rests_of_list stmts) (λ r. to_point (cut (and_on (within r) again))));
        each = each;
      })
    where
      each : (point count : ℕ) → slice_get (to_point body ∷ counts (rests_of_list stmts) again) point ≡ Some count → count ≡ to_point (cut (within (rest stmts point)))
      each zero count is = let same : to_point body ≡ count = cc in sym same ∙ ap to_point (p ∙ capped-pieces_of g wanted calls stmts)
      each (suc n) count is =
          let r : List Piece = get_or (rests_of_list stmts) n [] in
          let on : again ≡ cut (within (Hop ∷ pieces_of stmts)) = q ∙ ap (λ t. cut (behind (in_step g) t)) p ∙ capped-hop_stmts g wanted calls stmts in
          one_of (λ r. to_point (cut (and_on (within r) again))) (rests_of_list stmts) n count is
          ∙ ap to_point (and_on_next g (within r) again (within (Hop ∷ pieces_of stmts)) on ∙ ap cut (sym (pieces_tops-append g wanted calls r (Hop ∷ pieces_of stmts))))

  pub turned : (listed : List ℕ) (count : ℕ) (others : List ℕ) → listed ≡ reverse others ++ count ∷ [] → reverse listed ≡ count ∷ others
  turned listed count others e = ap reverse e ∙ reverse-append (reverse others) (count ∷ []) ∙ ap (λ ns. count ∷ ns) (reverse-reverse others)
