-- What is left of the proof of `reach::+reach`.
use Rattle.std.proofs.Common.{◌≡◌, ◌+◌, true, ◌&&◌, List, [], ◌∷◌, drop, sym, ap, refl, ◌∙◌, arith}
use Rattle.std.proofs.lemmas.List.{drop_all}
use Rattle.psy_lists.proofs.lemmas.Places.{drop_read}
use Rattle.psy_tree.specs.declared.unit.Stmt.{Stmt}
use Rattle.psy_flow.specs.Reach.{falls, all_fall, some_reaches, marked}
use Rattle.psy_flow.proofs.Marks.{marked_same, marked_none}
use Rattle.psy_flow.proofs.ReachPieces.{fall-cons, marked_on, marked_stop}
use Rattle.psy_flow.proofs.ReachVariants.{reach_return, reach_none, marked_if_else, fall_bounded, reach_bounded, reach_no_turn}
use Rattle.psy_flow.proofs.reach.+reach.Goals as goal

pub reach_stmt-returns-in-Return-clause-marks : goal.reach_stmt-returns-in-Return-clause-marks
reach_stmt-returns-in-Return-clause-marks t c = rw (c.in-Return.is) (sym (marked_none c.args.marks.now _ (reach_return c.in-Return.field-0)))

pub reach_stmt-returns-then-first-clause-marks : goal.reach_stmt-returns-then-first-clause-marks
reach_stmt-returns-then-first-clause-marks t c =
    rw (c.in-If.is, c.in-Some.is, ← c.as_slice.ensures, ← c.as_slice-in-Some.ensures)
    (marked_if_else c.args.marks.now c.reach_stmts-first.new.marks c.reach_stmts-second.new.marks c.in-If.field-0 c.as_slice.result.now c.as_slice-in-Some.result.now c.reach_stmts-first.ensures.marks c.reach_stmts-second.ensures.marks)

pub reach_stmt-returns-else-first-clause-marks : goal.reach_stmt-returns-else-first-clause-marks
reach_stmt-returns-else-first-clause-marks t c =
    rw (c.in-If.is, c.in-Some.is, ← c.as_slice.ensures, ← c.as_slice-in-Some.ensures)
    (marked_if_else c.args.marks.now c.reach_stmts-first.new.marks c.reach_stmts-second.new.marks c.in-If.field-0 c.as_slice.result.now c.as_slice-in-Some.result.now c.reach_stmts-first.ensures.marks c.reach_stmts-second.ensures.marks)

pub reach_stmt-returns-then-most-gt0-clause-falls : goal.reach_stmt-returns-then-most-gt0-clause-falls
reach_stmt-returns-then-most-gt0-clause-falls t c = rw (c.in-Bounded.is) (sym (fall_bounded c.in-Bounded.field-0 c.in-Bounded.most c.in-Bounded.body))

pub reach_stmt-returns-then-most-gt0-clause-marks : goal.reach_stmt-returns-then-most-gt0-clause-marks
reach_stmt-returns-then-most-gt0-clause-marks t c =
    rw (c.in-Bounded.is, ← c.as_slice-then-most-gt0.ensures)
    (c.reach_stmts.ensures.marks
    ∙ marked_same c.args.marks.now _ _ (λ q. sym (reach_bounded c.in-Bounded.field-0 c.in-Bounded.most c.as_slice-then-most-gt0.result.now q c.if-most-gt0.true)))

pub reach_stmt-returns-else-most-gt0-clause-marks : goal.reach_stmt-returns-else-most-gt0-clause-marks
reach_stmt-returns-else-most-gt0-clause-marks t c =
    rw (c.in-Bounded.is) (sym (marked_none c.args.marks.now _ (λ q. reach_no_turn c.in-Bounded.field-0 c.in-Bounded.most c.in-Bounded.body q (omega (arith, c.if-most-gt0.false)))))

pub reach_stmt-returns-in-Set-clause-marks : goal.reach_stmt-returns-in-Set-clause-marks
reach_stmt-returns-in-Set-clause-marks t c = sym (marked_none c.args.marks.now _ (reach_none c.args.stmt.now c.in-Set.is))

pub reach_stmts-returns-then-not-reach_stmt-clause-marks : goal.reach_stmts-returns-then-not-reach_stmt-clause-marks
reach_stmts-returns-then-not-reach_stmt-clause-marks t c =
    let marks = c.loop-stmt.marks in
    let stmts = c.args.stmts.now in
    let rest : List Stmt = drop (c.loop-stmt.stmt-index + 1) stmts in
    c.reach_stmt.ensures.marks
    ∙ marked_stop marks c.stmt-item.result rest (sym c.if-not-reach_stmt.ensures.falls)
    ∙ ap (λ ss. marked marks (some_reaches ss)) (sym (drop_read stmts c.loop-stmt.stmt-index c.stmt-item.result c.loop-stmt-test.true c.stmt-item.is))
    ∙ c.loop-stmt.invariant.1

pub reach_stmts-loop-stmt-preserved : goal.reach_stmts-loop-stmt-preserved
reach_stmts-loop-stmt-preserved t c =
    let marks = c.loop-stmt.marks in
    let stmts = c.args.stmts.now in
    let x : Stmt = c.stmt-item.result in
    let rest : List Stmt = drop (c.loop-stmt.stmt-index + 1) stmts in
    let on : drop c.loop-stmt.stmt-index stmts ≡ x ∷ rest = drop_read stmts c.loop-stmt.stmt-index x c.loop-stmt-test.true c.stmt-item.is in
    let falls_on : falls x ≡ true = sym c.if-not-reach_stmt.ensures.falls in (
      sym (ap all_fall on ∙ fall-cons x rest ∙ ap (λ b. b && all_fall rest) falls_on) ∙ c.loop-stmt.invariant.0,
      ap (λ ms. marked ms (some_reaches rest)) c.reach_stmt.ensures.marks ∙ marked_on marks x rest falls_on ∙ ap (λ ss. marked marks (some_reaches ss)) (sym on) ∙ c.loop-stmt.invariant.1,
    )

pub reach_stmts-returns-clause-marks : goal.reach_stmts-returns-clause-marks
reach_stmts-returns-clause-marks t c =
    let marks = c.loop-stmt.marks in
    sym (marked_none marks (some_reaches []) (λ q. refl))
    ∙ ap (λ ss. marked marks (some_reaches ss)) (sym (drop_all c.loop-stmt.stmt-index c.args.stmts.now c.loop-stmt-test.false))
    ∙ c.loop-stmt.invariant.1

pub reach_stmt-returns-in-Set-2-clause-marks : goal.reach_stmt-returns-in-Set-2-clause-marks
reach_stmt-returns-in-Set-2-clause-marks t c = sym (marked_none c.args.marks.now _ (reach_none c.args.stmt.now c.in-Set.is))

pub reach_stmt-returns-in-Set-3-clause-marks : goal.reach_stmt-returns-in-Set-3-clause-marks
reach_stmt-returns-in-Set-3-clause-marks t c = sym (marked_none c.args.marks.now _ (reach_none c.args.stmt.now c.in-Set.is))

pub reach_stmt-returns-in-Set-4-clause-marks : goal.reach_stmt-returns-in-Set-4-clause-marks
reach_stmt-returns-in-Set-4-clause-marks t c = sym (marked_none c.args.marks.now _ (reach_none c.args.stmt.now c.in-Set.is))
