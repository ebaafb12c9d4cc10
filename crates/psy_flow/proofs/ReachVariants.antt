-- Whether each statement falls through and what it reaches, from its parts.
use Rattle.std.proofs.Common.{◌≡◌, ℕ, zero, suc, ◌+◌, ◌<◌, Bool, true, false, ◌||◌, ◌&&◌, List, [], Some, None, is_some, ◌⊎◌, inl, inr, refl, sym, ap, ◌∙◌, arith}
use Rattle.psy_tree.specs.declared.unit.Expr.{Expr}
use Rattle.psy_tree.specs.declared.unit.Stmt.{Stmt, roll-Stmt, fold-roll-Stmt, map-Stmt}
use Rattle.psy_tree.specs.declared.unit.Stmt.TheVariants as stmt
use Rattle.psy_tree.specs.declared.unit.Stmt.TheOpen.{Stmt-F}
use Rattle.psy_flow.specs.declared.gauge.Gauge.TheVariants as gauge
use Rattle.psy_flow.specs.declared.tops.Tops.{Tops}
use Rattle.psy_flow.specs.Tops.{falling, greater, behind, or_else, and_on, turning, called, expr_most, stmt_tops_step, stmt_tops, stmts_tops}
use Rattle.psy_flow.specs.Reach.{falls, reaches, some_reaches, marked}
use Rattle.psy_flow.proofs.Marks.{marked_same, marked_both}
use Rattle.psy_flow.proofs.ReachTops.{some_plus, some_greater, to_and_on, turning_falls}

reaches_roll : (x : Stmt-F Stmt) (q : ℕ) → reaches (roll-Stmt x) q ≡ is_some (stmt_tops_step gauge.Steps (Some q) (called []) (map-Stmt Stmt Tops (stmt_tops gauge.Steps (Some q) (called [])) x)).to
reaches_roll x q = ap (λ (t : Tops). is_some t.to) (fold-roll-Stmt Tops (stmt_tops_step gauge.Steps (Some q) (called [])) x)

falls_roll : (x : Stmt-F Stmt) → falls (roll-Stmt x) ≡ is_some (stmt_tops_step gauge.Steps None (called []) (map-Stmt Stmt Tops (stmt_tops gauge.Steps None (called [])) x)).fell
falls_roll x = ap (λ (t : Tops). is_some t.fell) (fold-roll-Stmt Tops (stmt_tops_step gauge.Steps None (called [])) x)

pub reach_return : (v : Expr) (q : ℕ) → reaches (stmt.Return v) q ≡ false
reach_return v q = ap (λ s. reaches s q) (sym (stmt.rolls-Return v)) ∙ reaches_roll (Stmt-F.Return v) q

-- The statements without parts that fall through
abbrev one_of : Stmt → Type 0
one_of t =
    ((slot : ℕ) × (value : Expr) × (t ≡ stmt.Set slot value))
    ⊎ (((variable : ℕ) × (value : Expr) × (t ≡ stmt.SetCopy variable value))
    ⊎ (((slot : ℕ) × (index : Expr) × (value : Expr) × (t ≡ stmt.SetCell slot index value))
    ⊎ ((value : Expr) × (stream : ℕ) × (after : ℕ) × (clock : ℕ) × (t ≡ stmt.Send value stream after clock))))

pub reach_none : (t : Stmt) → one_of t → (q : ℕ) → reaches t q ≡ false
reach_none t (inl h) q = ap (λ s. reaches s q) (h.2 ∙ sym (stmt.rolls-Set h.0 h.1)) ∙ reaches_roll (Stmt-F.Set h.0 h.1) q
reach_none t (inr (inl h)) q = ap (λ s. reaches s q) (h.2 ∙ sym (stmt.rolls-SetCopy h.0 h.1)) ∙ reaches_roll (Stmt-F.SetCopy h.0 h.1) q
reach_none t (inr (inr (inl h))) q = ap (λ s. reaches s q) (h.3 ∙ sym (stmt.rolls-SetCell h.0 h.1 h.2)) ∙ reaches_roll (Stmt-F.SetCell h.0 h.1 h.2) q
reach_none t (inr (inr (inr h))) q = ap (λ s. reaches s q) (h.4 ∙ sym (stmt.rolls-Send h.0 h.1 h.2 h.3)) ∙ reaches_roll (Stmt-F.Send h.0 h.1 h.2 h.3) q

-- ---- an `if` with both branches

or-and_none : (r f : Bool) → (r || (f && false)) ≡ r
or-and_none true f = refl
or-and_none false true = refl
or-and_none false false = refl

or-and_same : (r f : Bool) → (r || (f && r)) ≡ r
or-and_same true f = refl
or-and_same false true = refl
or-and_same false false = refl

to_branches : (n m : ℕ) (branch other : Tops) → is_some (behind n (or_else (and_on branch (falling m)) other)).to ≡ (is_some branch.to || is_some other.to)
to_branches n m branch other =
    some_plus n (greater (and_on branch (falling m)).to other.to) ∙ some_greater (and_on branch (falling m)).to other.to
    ∙ ap (λ b. b || is_some other.to) (to_and_on branch (falling m) ∙ or-and_none (is_some branch.to) (is_some branch.fell))

reach_if_else : (test : Expr) (branch other : List Stmt) (q : ℕ) → reaches (stmt.If test branch (Some other)) q ≡ (some_reaches branch q || some_reaches other q)
reach_if_else test branch other q =
    ap (λ s. reaches s q) (sym (stmt.rolls-If test branch (Some other))) ∙ reaches_roll (Stmt-F.If test branch (Some other)) q
    ∙ to_branches (expr_most gauge.Steps (called []) test + 1) 1 (stmts_tops gauge.Steps (Some q) (called []) branch) (stmts_tops gauge.Steps (Some q) (called []) other)

pub marked_if_else : (marks first second : List Bool) (test : Expr) (branch other : List Stmt) → first ≡ marked marks (some_reaches branch) → second ≡ marked first (some_reaches other) → second ≡ marked marks (reaches (stmt.If test branch (Some other)))
marked_if_else marks first second test branch other e f =
    f ∙ ap (λ ms. marked ms (some_reaches other)) e ∙ marked_both marks (some_reaches branch) (some_reaches other)
    ∙ marked_same marks _ _ (λ q. sym (reach_if_else test branch other q))

-- ---- a bounded loop

turning_to : (most test : ℕ) (body : Tops) → is_some (turning gauge.Steps (suc most) test body).to ≡ is_some body.to
turning_to zero test body =
    some_plus (test + 2) (and_on body (behind 1 (turning gauge.Steps zero test body))).to ∙ to_and_on body (behind 1 (turning gauge.Steps zero test body))
    ∙ or-and_none (is_some body.to) (is_some body.fell)
turning_to (suc most) test body =
    some_plus (test + 2) (and_on body (behind 1 (turning gauge.Steps (suc most) test body))).to ∙ to_and_on body (behind 1 (turning gauge.Steps (suc most) test body))
    ∙ ap (λ b. is_some body.to || (is_some body.fell && b)) (some_plus 1 (turning gauge.Steps (suc most) test body).to ∙ turning_to most test body)
    ∙ or-and_same (is_some body.to) (is_some body.fell)

pub fall_bounded : (test : Expr) (most : ℕ) (body : List Stmt) → falls (stmt.Bounded test most body) ≡ true
fall_bounded test most body =
    ap falls (sym (stmt.rolls-Bounded test most body)) ∙ falls_roll (Stmt-F.Bounded test most body)
    ∙ some_plus 1 (turning gauge.Steps most (expr_most gauge.Steps (called []) test) (stmts_tops gauge.Steps None (called []) body)).fell
    ∙ turning_falls most (expr_most gauge.Steps (called []) test) (stmts_tops gauge.Steps None (called []) body)

reach_turns : (test : Expr) (most : ℕ) (body : List Stmt) (q : ℕ) → reaches (stmt.Bounded test most body) q ≡ is_some (turning gauge.Steps most (expr_most gauge.Steps (called []) test) (stmts_tops gauge.Steps (Some q) (called []) body)).to
reach_turns test most body q =
    ap (λ s. reaches s q) (sym (stmt.rolls-Bounded test most body)) ∙ reaches_roll (Stmt-F.Bounded test most body) q
    ∙ some_plus 1 (turning gauge.Steps most (expr_most gauge.Steps (called []) test) (stmts_tops gauge.Steps (Some q) (called []) body)).to

pub reach_bounded : (test : Expr) (most : ℕ) (body : List Stmt) (q : ℕ) → 0 < most → reaches (stmt.Bounded test most body) q ≡ some_reaches body q
reach_bounded test zero body q h = absurd (omega (arith, h))
reach_bounded test (suc most) body q h = reach_turns test (suc most) body q ∙ turning_to most (expr_most gauge.Steps (called []) test) (stmts_tops gauge.Steps (Some q) (called []) body)

pub reach_no_turn : (test : Expr) (most : ℕ) (body : List Stmt) (q : ℕ) → most ≡ 0 → reaches (stmt.Bounded test most body) q ≡ false
reach_no_turn test zero body q e = reach_turns test zero body q
reach_no_turn test (suc most) body q e = absurd (omega (arith, e))
