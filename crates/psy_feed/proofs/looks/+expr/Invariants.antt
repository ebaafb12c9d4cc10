-- What each loop of `looks::+expr` keeps.
use Rattle.std.proofs.Common.{◌≡◌, drop, map}
use Rattle.psy_history.specs.Feeding.{all_pasts}
use Rattle.psy_feed.specs.Arrows.{looks}
use Rattle.psy_feed.specs.Backs.{expr_backs}
use Rattle.psy_feed.proofs.looks.+expr.Given as goal

-- Those that were passed don't look.
abbrev pub invariant-exprs_look-loop-expr : goal.invariant-exprs_look-loop-expr
invariant-exprs_look-loop-expr l = looks l.variable (all_pasts (map (expr_backs l.least) l.exprs)) ≡ looks l.variable
    (all_pasts (map (expr_backs l.least) (drop l.expr-index l.exprs)))
