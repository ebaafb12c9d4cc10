-- What is left of the proof of `reach::+behind`.
use Rattle.std.proofs.Common.{◌≡◌, ◌+◌, false, sym, ap, subst, refl, ◌∙◌, arith}
use Rattle.psy_tree.specs.declared.unit.Stmt.{Stmt}
use Rattle.psy_tree.specs.declared.unit.Stmt.TheVariants as stmt
use Rattle.psy_meaning.specs.Rest.{rests_of}
use Rattle.psy_flow.specs.declared.reach.Reached.TheVariants as reached
use Rattle.psy_flow.specs.Reach.{falls, reaches, all_fall, some_reaches, marked, IsReached}
use Rattle.psy_flow.proofs.BehindTops.{nothing_in}
use Rattle.psy_flow.proofs.Marks.{marked_none}
use Rattle.psy_flow.proofs.Rests.{rests_advance, rests_if, rests_bounded, whole_rest}
use Rattle.psy_flow.proofs.ReachRests.{here_on, here_stop, further_on, none_left, if_found, if_further, timed_on, timed_stop, timed_further}
use Rattle.psy_flow.proofs.reach.+behind.Goals as goal

pub reach_behind-returns-in-Found-true : goal.reach_behind-returns-in-Found-true
reach_behind-returns-in-Found-true t c =
    let stmts = c.args.stmts.now in
    let next = c.loop-place.place + 1 in
    c.loop-place.invariant (reached.Found c.reach_stmts.result) c.reach_stmts.new.marks
    (here_on stmts c.loop-place.place c.index-stmts-place.result c.loop-place.left c.loop-place.marks c.reach_behind_in.new.marks c.reach_stmts.new.marks c.in-Found-true.field-0 c.reach_stmts.result
    c.loop-place-test.true c.index-stmts-place.is c.in-Found-true.ensures c.in-Found-true.field-0-test
    (c.reach_stmts.ensures.falls ∙ ap all_fall (whole_rest stmts next))
    (c.reach_stmts.ensures.marks ∙ ap (λ ss. marked c.reach_behind_in.new.marks (some_reaches ss)) (whole_rest stmts next)))

pub reach_behind-returns-in-Found-false : goal.reach_behind-returns-in-Found-false
reach_behind-returns-in-Found-false t c =
    c.loop-place.invariant (reached.Found false) c.reach_behind_in.new.marks
    (here_stop c.args.stmts.now c.loop-place.place c.index-stmts-place.result c.loop-place.left c.loop-place.marks c.reach_behind_in.new.marks c.in-Found-false.field-0
    c.loop-place-test.true c.index-stmts-place.is c.in-Found-false.ensures c.in-Found-false.field-0-test)

pub reach_behind-loop-place-preserved : goal.reach_behind-loop-place-preserved
reach_behind-loop-place-preserved t c r after behind =
    c.loop-place.invariant r after
    (further_on r c.args.stmts.now c.loop-place.place c.index-stmts-place.result c.loop-place.left c.in-Further.next c.loop-place.marks c.reach_behind_in.new.marks after
    c.loop-place-test.true c.index-stmts-place.is c.in-Further.ensures behind)

pub reach_behind-returns : goal.reach_behind-returns
reach_behind-returns t c =
    c.loop-place.invariant (reached.Further c.loop-place.left) c.loop-place.marks
    (none_left c.args.stmts.now c.loop-place.place c.loop-place.left c.loop-place.marks c.loop-place-test.false)

pub reach_behind_in-returns-then-number-eq0 : goal.reach_behind_in-returns-then-number-eq0
reach_behind_in-returns-then-number-eq0 t c =
    rw (c.in-Advance.is, rests_advance, c.if-number-eq0.true) (omega arith, refl, sym (marked_none c.args.marks.now _ (λ q. refl)))

pub reach_behind_in-returns-else-number-eq0 : goal.reach_behind_in-returns-else-number-eq0
reach_behind_in-returns-else-number-eq0 t c = rw (c.in-Advance.is, rests_advance) (omega arith, refl)

pub reach_behind_in-returns-in-None : goal.reach_behind_in-returns-in-None
reach_behind_in-returns-in-None t c = rw (c.in-If.is, c.in-None.is, rests_if, ← c.as_slice.ensures) c.reach_behind-reached.ensures

pub reach_behind_in-returns-in-Found : goal.reach_behind_in-returns-in-Found
reach_behind_in-returns-in-Found t c =
    rw (c.in-If.is, c.in-Some.is, ← c.as_slice.ensures)
    (if_found c.in-If.field-0 c.as_slice.result.now c.in-Some.other c.args.number c.args.marks.now c.reach_behind-reached.new.marks c.in-Found.falling c.in-Found.ensures)

pub reach_behind_in-returns-in-Further : goal.reach_behind_in-returns-in-Further
reach_behind_in-returns-in-Further t c =
    rw (c.in-If.is, c.in-Some.is, ← c.as_slice.ensures, ← c.as_slice-in-Further.ensures)
    (if_further c.reach_behind.result c.in-If.field-0 c.as_slice.result.now c.as_slice-in-Further.result.now c.args.number c.in-Further.left c.args.marks.now c.reach_behind-reached.new.marks c.reach_behind.new.marks c.in-Further.ensures
    c.reach_behind.ensures)

pub reach_behind_in-returns-in-Found-true : goal.reach_behind_in-returns-in-Found-true
reach_behind_in-returns-in-Found-true t c =
    let turn = c.as_slice-in-Timed.result.now in
    let is : c.args.stmt.now ≡ stmt.Timed c.in-Timed.field-0 turn = c.in-Timed.is ∙ ap (stmt.Timed c.in-Timed.field-0) (sym c.as_slice-in-Timed.ensures) in
    let Q : Stmt → Type 0 = λ s. IsReached (rests_of s) c.args.number c.args.marks.now c.reach_stmt.new.marks (reached.Found c.reach_stmt.result) in
    subst Q (sym is)
    (timed_on c.in-Timed.field-0 turn c.args.number c.args.marks.now c.reach_behind-in-Timed.new.marks c.reach_stmt.new.marks c.in-Found-true.field-0 c.reach_stmt.result c.in-Found-true.ensures c.in-Found-true.field-0-test
    (c.reach_stmt.ensures.falls ∙ ap falls is) (c.reach_stmt.ensures.marks ∙ ap (λ s. marked c.reach_behind-in-Timed.new.marks (reaches s)) is))

pub reach_behind_in-returns-in-Found-false : goal.reach_behind_in-returns-in-Found-false
reach_behind_in-returns-in-Found-false t c =
    rw (c.in-Timed.is, ← c.as_slice-in-Timed.ensures)
    (timed_stop c.in-Timed.field-0 c.as_slice-in-Timed.result.now c.args.number c.args.marks.now c.reach_behind-in-Timed.new.marks c.in-Found-false.field-0 c.in-Found-false.ensures c.in-Found-false.field-0-test)

pub reach_behind_in-returns-in-Further-reach_behind : goal.reach_behind_in-returns-in-Further-reach_behind
reach_behind_in-returns-in-Further-reach_behind t c =
    rw (c.in-Timed.is, ← c.as_slice-in-Timed.ensures)
    (timed_further c.in-Timed.field-0 c.as_slice-in-Timed.result.now c.args.number c.in-Further-reach_behind.left c.args.marks.now c.reach_behind-in-Timed.new.marks c.in-Further-reach_behind.ensures)

pub reach_behind_in-returns-in-Bounded : goal.reach_behind_in-returns-in-Bounded
reach_behind_in-returns-in-Bounded t c = rw (c.in-Bounded.is, rests_bounded, ← c.as_slice-in-Bounded.ensures) c.reach_behind-in-Bounded.ensures

pub reach_behind_in-returns-in_default : goal.reach_behind_in-returns-in_default
reach_behind_in-returns-in_default t c =
    let not = c.in_default in
    (nothing_in c.args.stmt.now c.args.number (record { advance = not.not-Advance; branches = not.not-If; timed = not.not-Timed; bounded = not.not-Bounded }), refl)
