-- What is left of the proof of `texts::+sends`.
use Rattle.std.proofs.Common.{◌+◌, ◌∙◌, Some, sym, take, ap}
use Rattle.psy_tree.specs.declared.unit.Stmt.TheVariants as stmt
use Rattle.psy_flow.specs.Texts.{marked_at, stmt_streams, streams_in}
use Rattle.psy_flow.proofs.TextMarks.{marks_more, streams_if_else, streams_more}
use Rattle.psy_flow.proofs.texts.+sends.Goals as goal

pub mark_sends_in-returns-in-Some : goal.mark_sends_in-returns-in-Some
mark_sends_in-returns-in-Some t c =
    let marks = c.args.sent.now in
    let between = c.mark_sends.new.sent in
    let test = c.in-If.field-0 in
    let branch = c.in-If.branch in
    let other = c.in-Some.other in
    rw (c.in-If.is, c.in-Some.is)
    (marks_more marks between c.mark_sends-in-Some.new.sent (streams_in branch) (streams_in other) (stmt_streams (stmt.If test branch (Some other)))
    (c.mark_sends.ensures ∙ ap (λ ss. marked_at marks (streams_in ss)) c.as_slice.ensures) (c.mark_sends-in-Some.ensures ∙ ap (λ ss. marked_at between (streams_in ss)) c.as_slice-in-Some.ensures)
    (streams_if_else test branch other))

pub mark_sends-loop-stmt-preserved : goal.mark_sends-loop-stmt-preserved
mark_sends-loop-stmt-preserved t c =
    let stmts = c.args.stmts.now in
    let i = c.loop-stmt.stmt-index in
    let x = c.stmt-item.result in
    marks_more c.args.sent.now c.loop-stmt.sent c.mark_sends_in.new.sent (streams_in (take i stmts)) (stmt_streams x) (streams_in (take (i + 1) stmts))
    c.loop-stmt.invariant c.mark_sends_in.ensures (streams_more stmts i x c.loop-stmt-test.true (sym c.stmt-item.is))
