-- What each loop of `expressions::+emit_expr` keeps.
use Rattle.std.proofs.Common.{◌≡◌, ◌++◌, drop, length}
use Rattle.psy_gen.specs.Emission.{exprs_code}
use Rattle.psy_gen.proofs.expressions.+emit_expr.Given as goal

abbrev pub invariant-emit_exprs-loop-expr : goal.invariant-emit_exprs-loop-expr
invariant-emit_exprs-loop-expr l = l.code ++ exprs_code l.layout (drop l.expr-index l.exprs) (length l.code) ≡ l.fn.code ++ exprs_code l.layout l.exprs (length l.fn.code)
