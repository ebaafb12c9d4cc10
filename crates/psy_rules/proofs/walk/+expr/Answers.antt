-- What is left of the proof of `walk::+expr`.
use Rattle.std.proofs.Common.{sym}
use Rattle.std.proofs.lemmas.List.{length-map}
use Rattle.psy_tree.specs.Places.{expr_places}
use Rattle.psy_rules.specs.Sites.{site_of}
use Rattle.psy_rules.proofs.Judging.{judged_more, judged_all_append}
use Rattle.psy_tree.proofs.lemmas.PlacesOf.{places_binary, places_call}
use Rattle.psy_rules.proofs.walk.+expr.Goals as goal

pub walk_exprs-loop-expr-preserved : goal.walk_exprs-loop-expr-preserved
walk_exprs-loop-expr-preserved t c =
    judged_more expr_places (site_of c.args.scope.now) c.args.exprs.now c.loop-expr.expr-index c.expr-item.result c.args.least.now.fault c.loop-expr.least.fault c.walk_expr.new.least.fault
    c.loop-expr-test.true (sym c.expr-item.is) c.loop-expr.invariant c.walk_expr.ensures

pub walk_expr-returns-in-Binary : goal.walk_expr-returns-in-Binary
walk_expr-returns-in-Binary t c = rw (c.in-Binary.is, places_binary, judged_all_append) (cc)

pub walk_expr-returns-in-Call : goal.walk_expr-returns-in-Call
walk_expr-returns-in-Call t c = rw (c.in-Call.is, places_call, length-map) (cc)
