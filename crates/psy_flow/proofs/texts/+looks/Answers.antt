-- What is left of the proof of `texts::+looks`.
use Rattle.std.proofs.Common.{◌+◌, ◌++◌, ◌∙◌, None, Some, refl, sym, take, ap}
use Rattle.psy_tree.specs.declared.unit.Stmt.TheVariants as stmt
use Rattle.psy_flow.specs.Texts.{expr_looks, looks_in, marked_at, stmt_looks}
use Rattle.psy_flow.proofs.TextMarks.{joined_more, looks_bounded, looks_if, looks_if_else, looks_set_cell, looks_timed, marks_more}
use Rattle.psy_flow.proofs.texts.+looks.Goals as goal

pub mark_looks_in-returns-in-SetCell : goal.mark_looks_in-returns-in-SetCell
mark_looks_in-returns-in-SetCell t c =
    let index = c.in-SetCell.index in
    let value = c.in-SetCell.value in
    rw c.in-SetCell.is
    (marks_more c.args.looked.now c.mark_looks_of-in-SetCell.new.looked c.mark_looks_of-in-SetCell-2.new.looked (expr_looks index) (expr_looks value)
    (stmt_looks (stmt.SetCell c.in-SetCell.field-0 index value)) c.mark_looks_of-in-SetCell.ensures c.mark_looks_of-in-SetCell-2.ensures (looks_set_cell c.in-SetCell.field-0 index value))

pub mark_looks_in-returns-in-None : goal.mark_looks_in-returns-in-None
mark_looks_in-returns-in-None t c =
    let tested = c.mark_looks_of-in-If.new.looked in
    rw (c.in-If.is, c.in-None.is)
    (marks_more c.args.looked.now tested c.mark_looks.new.looked (expr_looks c.in-If.test) (looks_in c.in-If.branch) (stmt_looks (stmt.If c.in-If.test c.in-If.branch None))
    c.mark_looks_of-in-If.ensures (c.mark_looks.ensures ∙ ap (λ ss. marked_at tested (looks_in ss)) c.as_slice.ensures) (looks_if c.in-If.test c.in-If.branch))

pub mark_looks_in-returns-in-Some : goal.mark_looks_in-returns-in-Some
mark_looks_in-returns-in-Some t c =
    let marks = c.args.looked.now in
    let tested = c.mark_looks_of-in-If.new.looked in
    let between = c.mark_looks.new.looked in
    let test = expr_looks c.in-If.test in
    let branch = looks_in c.in-If.branch in
    let other = c.in-Some.other in
    let first = marks_more marks tested between test branch (test ++ branch) c.mark_looks_of-in-If.ensures (c.mark_looks.ensures ∙ ap (λ ss. marked_at tested (looks_in ss)) c.as_slice.ensures) refl in
    rw (c.in-If.is, c.in-Some.is)
    (marks_more marks between c.mark_looks-in-Some.new.looked (test ++ branch) (looks_in other) (stmt_looks (stmt.If c.in-If.test c.in-If.branch (Some other)))
    first (c.mark_looks-in-Some.ensures ∙ ap (λ ss. marked_at between (looks_in ss)) c.as_slice-in-Some.ensures) (looks_if_else c.in-If.test c.in-If.branch other))

pub mark_looks_in-returns-in-Bounded : goal.mark_looks_in-returns-in-Bounded
mark_looks_in-returns-in-Bounded t c =
    let tested = c.mark_looks_of-in-Bounded.new.looked in
    let test = c.in-Bounded.test in
    let most = c.in-Bounded.field-1 in
    let body = c.in-Bounded.body in
    rw c.in-Bounded.is
    (marks_more c.args.looked.now tested c.mark_looks-in-Bounded.new.looked (expr_looks test) (looks_in body) (stmt_looks (stmt.Bounded test most body))
    c.mark_looks_of-in-Bounded.ensures (c.mark_looks-in-Bounded.ensures ∙ ap (λ ss. marked_at tested (looks_in ss)) c.as_slice-in-Bounded.ensures) (looks_bounded test most body))

pub mark_looks_in-returns-in-Timed : goal.mark_looks_in-returns-in-Timed
mark_looks_in-returns-in-Timed t c =
    let tested = c.mark_looks_of-in-Timed.new.looked in
    let test = c.in-Timed.test in
    let body = c.in-Timed.body in
    rw c.in-Timed.is
    (marks_more c.args.looked.now tested c.mark_looks-in-Timed.new.looked (expr_looks test) (looks_in body) (stmt_looks (stmt.Timed test body))
    c.mark_looks_of-in-Timed.ensures (c.mark_looks-in-Timed.ensures ∙ ap (λ ss. marked_at tested (looks_in ss)) c.as_slice-in-Timed.ensures) (looks_timed test body))

pub mark_looks-loop-stmt-preserved : goal.mark_looks-loop-stmt-preserved
mark_looks-loop-stmt-preserved t c =
    let stmts = c.args.stmts.now in
    let i = c.loop-stmt.stmt-index in
    let x = c.stmt-item.result in
    marks_more c.args.looked.now c.loop-stmt.looked c.mark_looks_in.new.looked (looks_in (take i stmts)) (stmt_looks x) (looks_in (take (i + 1) stmts))
    c.loop-stmt.invariant c.mark_looks_in.ensures (joined_more stmt_looks stmts i x c.loop-stmt-test.true (sym c.stmt-item.is))
