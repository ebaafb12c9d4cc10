-- What each loop of `walk::+expr` keeps.
use Rattle.std.proofs.Common.{◌≡◌, take, map}
use Rattle.psy_tree.specs.Places.{expr_places, joined}
use Rattle.psy_rules.specs.Sites.{site_of}
use Rattle.psy_rules.specs.Judged.{judged_all}
use Rattle.psy_rules.proofs.walk.+expr.Given as goal

abbrev pub invariant-walk_exprs-loop-expr : goal.invariant-walk_exprs-loop-expr
invariant-walk_exprs-loop-expr l = l.least.fault ≡ judged_all (site_of l.scope) (joined (map expr_places (take l.expr-index l.exprs))) l.fn.least.fault
