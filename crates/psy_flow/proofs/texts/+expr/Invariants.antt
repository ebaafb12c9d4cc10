-- What each loop of `texts::+expr` keeps.
use Rattle.std.proofs.Common.{◌≡◌, map, take}
use Rattle.psy_flow.specs.Texts.{expr_looks, joined, marked_at}
use Rattle.psy_flow.proofs.texts.+expr.Given as goal

abbrev pub invariant-mark_looks_of_all-loop-expr : goal.invariant-mark_looks_of_all-loop-expr
invariant-mark_looks_of_all-loop-expr l = l.looked ≡ marked_at l.fn.looked (joined (map expr_looks (take l.expr-index l.exprs)))
