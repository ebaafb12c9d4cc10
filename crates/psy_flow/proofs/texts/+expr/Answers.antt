-- What is left of the proof of `texts::+expr`.
use Rattle.std.proofs.Common.{◌+◌, ◌∙◌, map, sym, take, ap}
use Rattle.psy_tree.specs.declared.unit.Expr.TheVariants as expr
use Rattle.psy_flow.specs.Texts.{expr_looks, joined, marked_at}
use Rattle.psy_flow.proofs.TextMarks.{joined_more, looks_binary, marks_more}
use Rattle.psy_flow.proofs.texts.+expr.Goals as goal

pub mark_looks_of-returns-in-Binary : goal.mark_looks_of-returns-in-Binary
mark_looks_of-returns-in-Binary t c =
    let marks = c.args.looked.now in
    let left = c.in-Binary.left in
    let right = c.in-Binary.right in
    let between = c.mark_looks_of-in-Binary.new.looked in
    rw c.in-Binary.is
    (marks_more marks between c.mark_looks_of-in-Binary-2.new.looked (expr_looks left) (expr_looks right) (expr_looks (expr.Binary c.in-Binary.field-0 c.in-Binary.field-1 left right))
    (c.mark_looks_of-in-Binary.ensures ∙ ap (λ e. marked_at marks (expr_looks e)) c.get-in-Binary.ensures)
    (c.mark_looks_of-in-Binary-2.ensures ∙ ap (λ e. marked_at between (expr_looks e)) c.get-in-Binary-2.ensures) (looks_binary c.in-Binary.field-0 c.in-Binary.field-1 left right))

pub mark_looks_of_all-loop-expr-preserved : goal.mark_looks_of_all-loop-expr-preserved
mark_looks_of_all-loop-expr-preserved t c =
    let exprs = c.args.exprs.now in
    let i = c.loop-expr.expr-index in
    let x = c.expr-item.result in
    marks_more c.args.looked.now c.loop-expr.looked c.mark_looks_of.new.looked (joined (map expr_looks (take i exprs))) (expr_looks x) (joined (map expr_looks (take (i + 1) exprs)))
    c.loop-expr.invariant c.mark_looks_of.ensures (joined_more expr_looks exprs i x c.loop-expr-test.true (sym c.expr-item.is))
