-- What is left of the proof of `points::+behind`.
use Rattle.std.proofs.Common.{◌≡◌, ◌∙◌, ℕ, sym, ap, arith, subst, ◌+◌}
use Rattle.psy_tree.specs.declared.unit.Stmt.{Stmt}
use Rattle.psy_tree.specs.declared.unit.Stmt.TheVariants as stmt
use Rattle.psy_meaning.specs.Rest.{rests_of, rests_of_list}
use Rattle.psy_flow.specs.declared.points.Search.{Search}
use Rattle.psy_flow.specs.declared.points.Search.TheVariants as search
use Rattle.psy_flow.specs.Tops.{called, capped_tops, stmt_tops, stmts_tops, in_step, falling, behind}
use Rattle.psy_flow.specs.Behind.{IsBehind}
use Rattle.psy_flow.proofs.Rests.{rests_advance, rests_if, rests_bounded, whole_rest}
use Rattle.psy_flow.proofs.BehindTops.{nothing_in, found_here, further_on, none_left, advance_found, if_found, if_further, timed_found, timed_further}
use Rattle.psy_flow.proofs.points.+behind.Goals as goal

pub behind-returns-in-Found : goal.behind-returns-in-Found
behind-returns-in-Found t c =
    let calls : ℕ → ℕ = called c.args.row.now in
    let P : Search → Type 0 = λ r. IsBehind c.args.gauge c.args.wanted calls (rests_of c.index-stmts-place.result) c.loop-place.left r in
    c.loop-place.invariant (search.Found c.and_on.result)
    (found_here c.args.gauge c.args.wanted calls c.in-Found.tops c.tops_of_stmts-rest.result c.and_on.result c.args.stmts.now c.loop-place.place c.index-stmts-place.result c.loop-place.left
    c.loop-place-test.true c.index-stmts-place.is (subst P c.in-Found.is c.behind_in.ensures)
    (c.tops_of_stmts-rest.ensures ∙ ap (λ ss. capped_tops c.args.gauge (stmts_tops c.args.gauge c.args.wanted calls ss)) (whole_rest c.args.stmts.now (c.loop-place.place + 1)))
    c.and_on.ensures)

pub behind-loop-place-preserved : goal.behind-loop-place-preserved
behind-loop-place-preserved t c r after =
    let calls : ℕ → ℕ = called c.args.row.now in
    let P : Search → Type 0 = λ r. IsBehind c.args.gauge c.args.wanted calls (rests_of c.index-stmts-place.result) c.loop-place.left r in
    c.loop-place.invariant r
    (further_on c.args.gauge c.args.wanted calls r c.args.stmts.now c.loop-place.place c.index-stmts-place.result c.loop-place.left c.in-Further.next
    c.loop-place-test.true c.index-stmts-place.is (subst P c.in-Further.is c.behind_in.ensures) after)

pub behind-returns : goal.behind-returns
behind-returns t c =
    c.loop-place.invariant (search.Further c.loop-place.left)
    (none_left c.args.gauge c.args.wanted (called c.args.row.now) c.args.stmts.now c.loop-place.place c.loop-place.left c.loop-place-test.false)

pub behind_in-returns-then-number-eq0 : goal.behind_in-returns-then-number-eq0
behind_in-returns-then-number-eq0 t c =
    let P : Stmt → Type 0 = λ s. IsBehind c.args.gauge c.args.wanted (called c.args.row.now) (rests_of s) c.args.number (search.Found c.falling.result) in
    subst P (sym c.in-Advance.is) (advance_found c.args.gauge c.args.wanted (called c.args.row.now) c.falling.result c.in-Advance.field-0 c.args.number c.if-number-eq0.true c.falling.ensures)

pub behind_in-returns-else-number-eq0 : goal.behind_in-returns-else-number-eq0
behind_in-returns-else-number-eq0 t c = rw (c.in-Advance.is, rests_advance) (omega (arith, c.if-number-eq0.false))

pub behind_in-returns-in-None : goal.behind_in-returns-in-None
behind_in-returns-in-None t c = rw (c.in-If.is, c.in-None.is, rests_if, ← c.as_slice.ensures) c.behind-found.ensures

pub behind_in-returns-in-Found : goal.behind_in-returns-in-Found
behind_in-returns-in-Found t c =
    let g = c.args.gauge in
    let calls : ℕ → ℕ = called c.args.row.now in
    let P : Search → Type 0 = λ r. IsBehind g c.args.wanted calls (rests_of_list c.as_slice.result.now) c.args.number r in
    rw (c.in-If.is, c.in-Some.is, ← c.as_slice.ensures)
    (if_found g c.args.wanted calls c.in-Found.tops c.falling-in-Found.result c.and_on.result c.in-If.field-0 c.as_slice.result.now c.in-Some.other c.args.number
    (subst P c.in-Found.is c.behind-found.ensures) (c.falling-in-Found.ensures ∙ ap falling c.step.ensures) c.and_on.ensures)

pub behind_in-returns-in-Further : goal.behind_in-returns-in-Further
behind_in-returns-in-Further t c =
    let calls : ℕ → ℕ = called c.args.row.now in
    let P : Search → Type 0 = λ r. IsBehind c.args.gauge c.args.wanted calls (rests_of_list c.as_slice.result.now) c.args.number r in
    rw (c.in-If.is, c.in-Some.is, ← c.as_slice.ensures, ← c.as_slice-in-Further.ensures)
    (if_further c.args.gauge c.args.wanted calls c.behind.result c.in-If.field-0 c.as_slice.result.now c.as_slice-in-Further.result.now c.args.number c.in-Further.left
    (subst P c.in-Further.is c.behind-found.ensures) c.behind.ensures)

pub behind_in-returns-in-Found-behind : goal.behind_in-returns-in-Found-behind
behind_in-returns-in-Found-behind t c =
    let g = c.args.gauge in
    let calls : ℕ → ℕ = called c.args.row.now in
    let turn = c.as_slice-in-Timed.result.now in
    let is : c.args.stmt.now ≡ stmt.Timed c.in-Timed.field-0 turn = c.in-Timed.is ∙ ap (stmt.Timed c.in-Timed.field-0) (sym c.as_slice-in-Timed.ensures) in
    let P : Search → Type 0 = λ r. IsBehind g c.args.wanted calls (rests_of_list turn) c.args.number r in
    let Q : Stmt → Type 0 = λ s. IsBehind g c.args.wanted calls (rests_of s) c.args.number (search.Found c.and_on-in-Found-behind.result) in
    let again : c.behind-again.result ≡ capped_tops g (behind (in_step g) (capped_tops g (stmt_tops g c.args.wanted calls (stmt.Timed c.in-Timed.field-0 turn)))) =
    c.behind-again.ensures
    ∙ ap (λ n. capped_tops g (behind n c.tops_of_stmt.result)) c.step-in-Found-behind.ensures
    ∙ ap (λ x. capped_tops g (behind (in_step g) x)) c.tops_of_stmt.ensures
    ∙ ap (λ s. capped_tops g (behind (in_step g) (capped_tops g (stmt_tops g c.args.wanted calls s)))) is in
    subst Q (sym is)
    (timed_found g c.args.wanted calls c.in-Found-behind.tops c.behind-again.result c.and_on-in-Found-behind.result c.in-Timed.field-0 turn c.args.number
    (subst P c.in-Found-behind.is c.behind-in-Timed.ensures) again c.and_on-in-Found-behind.ensures)

pub behind_in-returns-in-Further-behind : goal.behind_in-returns-in-Further-behind
behind_in-returns-in-Further-behind t c =
    let calls : ℕ → ℕ = called c.args.row.now in
    let P : Search → Type 0 = λ r. IsBehind c.args.gauge c.args.wanted calls (rests_of_list c.as_slice-in-Timed.result.now) c.args.number r in
    rw (c.in-Timed.is, ← c.as_slice-in-Timed.ensures)
    (timed_further c.args.gauge c.args.wanted calls c.in-Further-behind.left c.in-Timed.field-0 c.as_slice-in-Timed.result.now c.args.number (subst P c.in-Further-behind.is c.behind-in-Timed.ensures))

pub behind_in-returns-in-Bounded : goal.behind_in-returns-in-Bounded
behind_in-returns-in-Bounded t c = rw (c.in-Bounded.is, rests_bounded, ← c.as_slice-in-Bounded.ensures) c.behind-in-Bounded.ensures

pub behind_in-returns-in_default : goal.behind_in-returns-in_default
behind_in-returns-in_default t c =
    let not = c.in_default in
    nothing_in c.args.stmt.now c.args.number (record { advance = not.not-Advance; branches = not.not-If; timed = not.not-Timed; bounded = not.not-Bounded })
