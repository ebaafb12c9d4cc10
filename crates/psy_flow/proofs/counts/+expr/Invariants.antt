-- What each loop of `counts::+expr` keeps.
use Rattle.std.proofs.Common.{◌≡◌, min, map, take}
use Rattle.psy_tree.specs.Paths.{total}
use Rattle.psy_flow.specs.Tops.{limit_of, called, expr_most}
use Rattle.psy_flow.proofs.counts.+expr.Given as goal

abbrev pub invariant-most_of_exprs-loop-expr : goal.invariant-most_of_exprs-loop-expr
invariant-most_of_exprs-loop-expr l = l.count ≡ min (total (map (expr_most l.gauge (called l.row)) (take l.expr-index l.exprs))) (limit_of l.gauge)
