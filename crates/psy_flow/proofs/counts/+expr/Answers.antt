-- What is left of the proof of `counts::+expr`.
use Rattle.std.proofs.Common.{sym, arith}
use Rattle.psy_flow.specs.Tops.{called, expr_most}
use Rattle.psy_flow.proofs.Lists.{total_more}
use Rattle.psy_flow.proofs.counts.+expr.Goals as goal

pub most_of_exprs-loop-expr-preserved : goal.most_of_exprs-loop-expr-preserved
most_of_exprs-loop-expr-preserved t c =
    omega (arith, total_more (expr_most c.args.gauge (called c.args.row.now)) c.args.exprs.now c.loop-expr.expr-index c.expr-item.result c.loop-expr-test.true (sym c.expr-item.is))
