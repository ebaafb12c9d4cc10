-- Found, and further on: what comes of going to an `advance` among rests.
use Rattle.std.proofs.Common.{◌≡◌, ℕ, zero, suc, ◌+◌, ◌-◌, ◌<◌, ◌≤◌, Bool, true, false, ◌||◌, ◌&&◌, List, [], ◌∷◌, ◌++◌, drop, length, get_or, Some, refl, sym, ap, subst, ◌∙◌, arith}
use Rattle.std.proofs.lemmas.List.{length-append, length-map, drop_all, get_or_append_left}
use Rattle.std.proofs.Math.Bool.{or-false}
use Rattle.psy_tree.specs.declared.unit.Expr.{Expr}
use Rattle.psy_tree.specs.declared.unit.Stmt.{Stmt}
use Rattle.psy_tree.specs.declared.unit.Stmt.TheVariants as stmt
use Rattle.psy_meaning.specs.Statements.{Piece, Do, Hop}
use Rattle.psy_meaning.specs.Rest.{Rests, each_then, pieces_of, rests_of, rest, rests_of_list}
use Rattle.psy_flow.specs.declared.reach.Reached.{Reached}
use Rattle.psy_flow.specs.declared.reach.Reached.TheVariants as reached
use Rattle.psy_flow.specs.Reach.{falls, reaches, all_fall, some_reaches, pieces_fall, pieces_reach, marked, IsReached}
use Rattle.psy_flow.proofs.Marks.{marked_same, marked_none, marked_both}
use Rattle.psy_flow.proofs.ReachPieces.{pieces_fall-append, pieces_reach-append, fall_pieces_of, reach_pieces_of, fall_hop, reach_hop, fall_one, reach_one}
use Rattle.psy_flow.proofs.Rests.{get_or-append_second, get_or-each_then, rests_dropped, rests_if_else, rests_timed}

abbrev Found : Rests → ℕ → List Bool → List Bool → Bool → Type 0
Found rests n before after f = IsReached rests n before after (reached.Found f)

-- ---- pieces behind pieces

fall_on : (ps qs : List Piece) (f : Bool) → f ≡ pieces_fall ps → f ≡ true → pieces_fall qs ≡ pieces_fall (ps ++ qs)
fall_on ps qs f e is = sym (pieces_fall-append ps qs ∙ ap (λ b. b && pieces_fall qs) (sym e ∙ is))

fall_stop : (ps qs : List Piece) (f : Bool) → f ≡ pieces_fall ps → f ≡ false → false ≡ pieces_fall (ps ++ qs)
fall_stop ps qs f e is = sym (pieces_fall-append ps qs ∙ ap (λ b. b && pieces_fall qs) (sym e ∙ is))

marks_on : (marks : List Bool) (ps qs : List Piece) (f : Bool) → f ≡ pieces_fall ps → f ≡ true → marked (marked marks (pieces_reach ps)) (pieces_reach qs) ≡ marked marks (pieces_reach (ps ++ qs))
marks_on marks ps qs f e is =
    marked_both marks (pieces_reach ps) (pieces_reach qs)
    ∙ marked_same marks _ _ (λ q. sym (pieces_reach-append ps qs q ∙ ap (λ b. pieces_reach ps q || (b && pieces_reach qs q)) (sym e ∙ is)))

marks_stop : (marks : List Bool) (ps qs : List Piece) (f : Bool) → f ≡ pieces_fall ps → f ≡ false → marked marks (pieces_reach ps) ≡ marked marks (pieces_reach (ps ++ qs))
marks_stop marks ps qs f e is =
    marked_same marks _ _ (λ q. sym (pieces_reach-append ps qs q ∙ ap (λ b. pieces_reach ps q || (b && pieces_reach qs q)) (sym e ∙ is) ∙ or-false (pieces_reach ps q)))

-- ---- rests with pieces behind each

each_at : (xs : Rests) (ps : List Piece) (n : ℕ) (before last : List Bool) (g : Bool) → n < length xs → g ≡ pieces_fall (get_or xs n [] ++ ps) → last ≡ marked before (pieces_reach (get_or xs n [] ++ ps)) → Found (each_then xs ps) n before last g
each_at xs ps n before last g h e f = (
  omega (arith, h, length-map xs (λ r. r ++ ps)),
  e ∙ sym (ap pieces_fall (get_or-each_then xs ps n h)),
  f ∙ sym (ap (λ r. marked before (pieces_reach r)) (get_or-each_then xs ps n h)),
)

each_on : (xs : Rests) (ps : List Piece) (n : ℕ) (before after last : List Bool) (f g : Bool) → Found xs n before after f → f ≡ true → g ≡ pieces_fall ps → last ≡ marked after (pieces_reach ps) → Found (each_then xs ps) n before last g
each_on xs ps n before after last f g h is e l =
    let r : List Piece = get_or xs n [] in
    each_at xs ps n before last g h.0 (e ∙ fall_on r ps f h.1 is) (l ∙ ap (λ ms. marked ms (pieces_reach ps)) h.2 ∙ marks_on before r ps f h.1 is)

each_stop : (xs : Rests) (ps : List Piece) (n : ℕ) (before after : List Bool) (f : Bool) → Found xs n before after f → f ≡ false → Found (each_then xs ps) n before after false
each_stop xs ps n before after f h is =
    let r : List Piece = get_or xs n [] in
    each_at xs ps n before after false h.0 (fall_stop r ps f h.1 is) (h.2 ∙ marks_stop before r ps f h.1 is)

hop_none : (q : ℕ) → pieces_reach (Hop ∷ []) q ≡ false
hop_none q = reach_hop [] q

each_hop : (xs : Rests) (n : ℕ) (before after : List Bool) (f : Bool) → Found xs n before after f → Found (each_then xs (Hop ∷ [])) n before after f
each_hop xs n before after true h = each_on xs (Hop ∷ []) n before after after true true h refl (sym (fall_hop [])) (sym (marked_none after (pieces_reach (Hop ∷ [])) hop_none))
each_hop xs n before after false h = each_stop xs (Hop ∷ []) n before after false h refl

each_further : (xs : Rests) (ps : List Piece) (n left : ℕ) (before after : List Bool) → IsReached xs n before after (reached.Further left) → IsReached (each_then xs ps) n before after (reached.Further left)
each_further xs ps n left before after h = (omega (arith, h.0, length-map xs (λ r. r ++ ps)), h.1)

found_first : (xs ys : Rests) (n : ℕ) (before after : List Bool) (f : Bool) → Found xs n before after f → Found (xs ++ ys) n before after f
found_first xs ys n before after f h = (
  omega (arith, h.0, length-append xs ys),
  h.1 ∙ sym (ap pieces_fall (get_or_append_left xs ys [] n h.0)),
  h.2 ∙ sym (ap (λ r. marked before (pieces_reach r)) (get_or_append_left xs ys [] n h.0)),
)

further_second : (r : Reached) (xs ys : Rests) (n left : ℕ) (before after last : List Bool) → IsReached xs n before after (reached.Further left) → IsReached ys left after last r → IsReached (xs ++ ys) n before last r
further_second (reached.Found f) xs ys n left before after last passed h = (
  omega (arith, passed.0, h.0, length-append xs ys),
  h.1 ∙ sym (ap pieces_fall (get_or-append_second xs ys n left passed.0)),
  h.2 ∙ ap (λ ms. marked ms (pieces_reach (get_or ys left []))) passed.1 ∙ sym (ap (λ r. marked before (pieces_reach r)) (get_or-append_second xs ys n left passed.0)),
)
further_second (reached.Further m) xs ys n left before after last passed h = (omega (arith, passed.0, h.0, length-append xs ys), h.1 ∙ passed.1)

-- ---- one statement further

pub here_on : (stmts : List Stmt) (i : ℕ) (x : Stmt) (n : ℕ) (before after last : List Bool) (f g : Bool) → i < length stmts → x ≡ get_or stmts i x → Found (rests_of x) n before after f → f ≡ true →
    g ≡ all_fall (drop (i + 1) stmts) → last ≡ marked after (some_reaches (drop (i + 1) stmts)) → Found (rests_of_list (drop i stmts)) n before last g
here_on stmts i x n before after last f g h e found is falling reaching =
    let rest : List Stmt = drop (i + 1) stmts in
    let P : Rests → Type 0 = λ rests. Found rests n before last g in
    subst P (sym (rests_dropped stmts i x h e))
    (found_first (each_then (rests_of x) (pieces_of rest)) (rests_of_list rest) n before last g
    (each_on (rests_of x) (pieces_of rest) n before after last f g found is (falling ∙ sym (fall_pieces_of rest)) (reaching ∙ marked_same after _ _ (λ q. sym (reach_pieces_of rest q)))))

pub here_stop : (stmts : List Stmt) (i : ℕ) (x : Stmt) (n : ℕ) (before after : List Bool) (f : Bool) → i < length stmts → x ≡ get_or stmts i x → Found (rests_of x) n before after f → f ≡ false →
    Found (rests_of_list (drop i stmts)) n before after false
here_stop stmts i x n before after f h e found is =
    let rest : List Stmt = drop (i + 1) stmts in
    let P : Rests → Type 0 = λ rests. Found rests n before after false in
    subst P (sym (rests_dropped stmts i x h e))
    (found_first (each_then (rests_of x) (pieces_of rest)) (rests_of_list rest) n before after false (each_stop (rests_of x) (pieces_of rest) n before after f found is))

pub further_on : (r : Reached) (stmts : List Stmt) (i : ℕ) (x : Stmt) (n left : ℕ) (before after last : List Bool) → i < length stmts → x ≡ get_or stmts i x → IsReached (rests_of x) n before after (reached.Further left) →
    IsReached (rests_of_list (drop (i + 1) stmts)) left after last r → IsReached (rests_of_list (drop i stmts)) n before last r
further_on r stmts i x n left before after last h e passed behind =
    let rest : List Stmt = drop (i + 1) stmts in
    let P : Rests → Type 0 = λ rests. IsReached rests n before last r in
    subst P (sym (rests_dropped stmts i x h e))
    (further_second r (each_then (rests_of x) (pieces_of rest)) (rests_of_list rest) n left before after last (each_further (rests_of x) (pieces_of rest) n left before after passed) behind)

pub none_left : (stmts : List Stmt) (i n : ℕ) (marks : List Bool) → length stmts ≤ i → IsReached (rests_of_list (drop i stmts)) n marks marks (reached.Further n)
none_left stmts i n marks h =
    let P : List Stmt → Type 0 = λ ss. IsReached (rests_of_list ss) n marks marks (reached.Further n) in
    subst P (sym (drop_all i stmts h)) (omega arith, refl)

-- ---- within an `if` and a timed loop

pub if_found : (test : Expr) (branch other : List Stmt) (n : ℕ) (before after : List Bool) (f : Bool) → Found (rests_of_list branch) n before after f → Found (rests_of (stmt.If test branch (Some other))) n before after f
if_found test branch other n before after f found =
    let P : Rests → Type 0 = λ rests. Found rests n before after f in
    subst P (sym (rests_if_else test branch other))
    (found_first (each_then (rests_of_list branch) (Hop ∷ [])) (rests_of_list other) n before after f (each_hop (rests_of_list branch) n before after f found))

pub if_further : (r : Reached) (test : Expr) (branch other : List Stmt) (n left : ℕ) (before after last : List Bool) → IsReached (rests_of_list branch) n before after (reached.Further left) →
    IsReached (rests_of_list other) left after last r → IsReached (rests_of (stmt.If test branch (Some other))) n before last r
if_further r test branch other n left before after last passed behind =
    let P : Rests → Type 0 = λ rests. IsReached rests n before last r in
    subst P (sym (rests_if_else test branch other))
    (further_second r (each_then (rests_of_list branch) (Hop ∷ [])) (rests_of_list other) n left before after last (each_further (rests_of_list branch) (Hop ∷ []) n left before after passed) behind)

pub timed_on : (test : Expr) (body : List Stmt) (n : ℕ) (before after last : List Bool) (f g : Bool) → Found (rests_of_list body) n before after f → f ≡ true → g ≡ falls (stmt.Timed test body) → last ≡ marked after (reaches (stmt.Timed test body)) →
    Found (rests_of (stmt.Timed test body)) n before last g
timed_on test body n before after last f g found is falling reaching =
    let loop : Stmt = stmt.Timed test body in
    let P : Rests → Type 0 = λ rests. Found rests n before last g in
    subst P (sym (rests_timed test body))
    (each_on (rests_of_list body) (Hop ∷ Do loop ∷ []) n before after last f g found is (falling ∙ sym (fall_hop (Do loop ∷ []) ∙ fall_one loop))
    (reaching ∙ marked_same after _ _ (λ q. sym (reach_hop (Do loop ∷ []) q ∙ reach_one loop q))))

pub timed_stop : (test : Expr) (body : List Stmt) (n : ℕ) (before after : List Bool) (f : Bool) → Found (rests_of_list body) n before after f → f ≡ false → Found (rests_of (stmt.Timed test body)) n before after false
timed_stop test body n before after f found is =
    let P : Rests → Type 0 = λ rests. Found rests n before after false in
    subst P (sym (rests_timed test body)) (each_stop (rests_of_list body) (Hop ∷ Do (stmt.Timed test body) ∷ []) n before after f found is)

pub timed_further : (test : Expr) (body : List Stmt) (n left : ℕ) (before after : List Bool) → IsReached (rests_of_list body) n before after (reached.Further left) → IsReached (rests_of (stmt.Timed test body)) n before after (reached.Further left)
timed_further test body n left before after passed =
    let P : Rests → Type 0 = λ rests. IsReached rests n before after (reached.Further left) in
    subst P (sym (rests_timed test body)) (each_further (rests_of_list body) (Hop ∷ Do (stmt.Timed test body) ∷ []) n left before after passed)

-- ---- from a point

pub from_head : (stmts : List Stmt) (point : ℕ) (marks : List Bool) → point ≡ 0 → marked marks (some_reaches stmts) ≡ marked marks (pieces_reach (rest stmts point))
from_head stmts zero marks e = marked_same marks _ _ (λ q. sym (reach_pieces_of stmts q))
from_head stmts (suc n) marks e = absurd (omega (arith, e))

pub from_on : (stmts : List Stmt) (point : ℕ) (before after last : List Bool) (f : Bool) → 0 < point → Found (rests_of_list stmts) (point - 1) before after f → f ≡ true → last ≡ marked after (some_reaches stmts) →
    last ≡ marked before (pieces_reach (rest stmts point))
from_on stmts zero before after last f h found is l = absurd (omega (arith, h))
from_on stmts (suc n) before after last f h found is l =
    let e : suc n - 1 ≡ n = omega arith in
    let at : Found (rests_of_list stmts) n before after f = subst (λ m. Found (rests_of_list stmts) m before after f) e found in
    let r : List Piece = get_or (rests_of_list stmts) n [] in
    l ∙ marked_same after _ _ (λ q. sym (reach_hop (pieces_of stmts) q ∙ reach_pieces_of stmts q))
    ∙ ap (λ ms. marked ms (pieces_reach (Hop ∷ pieces_of stmts))) at.2 ∙ marks_on before r (Hop ∷ pieces_of stmts) f at.1 is

pub from_stop : (stmts : List Stmt) (point : ℕ) (before after : List Bool) (f : Bool) → 0 < point → Found (rests_of_list stmts) (point - 1) before after f → f ≡ false → after ≡ marked before (pieces_reach (rest stmts point))
from_stop stmts zero before after f h found is = absurd (omega (arith, h))
from_stop stmts (suc n) before after f h found is =
    let e : suc n - 1 ≡ n = omega arith in
    let at : Found (rests_of_list stmts) n before after f = subst (λ m. Found (rests_of_list stmts) m before after f) e found in
    at.2 ∙ marks_stop before (get_or (rests_of_list stmts) n []) (Hop ∷ pieces_of stmts) f at.1 is
