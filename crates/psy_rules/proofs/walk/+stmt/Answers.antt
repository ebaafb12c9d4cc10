-- What is left of the proof of `walk::+stmt`.
use Rattle.std.proofs.Common.{◌∙◌, sym, ap}
use Rattle.std.specs.Prelude.{nat_lt}
use Rattle.psy_tree.specs.Places.{stmt_places}
use Rattle.psy_rules.specs.Sites.{site_of}
use Rattle.psy_rules.proofs.Judging.{judged_more, quiet_more, advances_more, judged_all_append}
use Rattle.psy_tree.proofs.lemmas.Advances.{positive_sum}
use Rattle.psy_tree.proofs.lemmas.PlacesOf.{places_set, places_set_cell, places_send, places_return, places_if, places_if_else, places_while}
use Rattle.psy_rules.proofs.walk.+stmt.Goals as goal

pub walk_stmts-loop-stmt-preserved : goal.walk_stmts-loop-stmt-preserved
walk_stmts-loop-stmt-preserved t c = record {
  least = judged_more stmt_places (site_of c.args.scope.now) c.args.stmts.now c.loop-stmt.stmt-index c.stmt-item.result c.args.least.now.fault c.loop-stmt.least.fault c.walk_stmt-here.new.least.fault
      c.loop-stmt-test.true (sym c.stmt-item.is) c.loop-stmt.invariant.least c.walk_stmt-here.ensures.least;
  quiet = rw (c.and-paths.ensures.quiet, c.loop-stmt.invariant.quiet, c.walk_stmt-here.ensures.quiet)
      (sym (quiet_more c.args.stmts.now c.loop-stmt.stmt-index c.stmt-item.result c.loop-stmt-test.true (sym c.stmt-item.is)));
  advances = rw (c.and-paths.ensures.advances, c.loop-stmt.invariant.advances, c.walk_stmt-here.ensures.advances)
      (positive_sum _ _ ∙ sym (ap (nat_lt 0) (advances_more c.args.stmts.now c.loop-stmt.stmt-index c.stmt-item.result c.loop-stmt-test.true (sym c.stmt-item.is))));
}

pub walk_stmt-returns-in-Set-clause-least : goal.walk_stmt-returns-in-Set-clause-least
walk_stmt-returns-in-Set-clause-least t c = simp (c.in-Set.is, places_set, judged_all_append) (cc)

pub walk_stmt-returns-in-SetCell-clause-least : goal.walk_stmt-returns-in-SetCell-clause-least
walk_stmt-returns-in-SetCell-clause-least t c = simp (c.in-SetCell.is, places_set_cell, judged_all_append) (cc)

pub walk_stmt-returns-in-Send-clause-least : goal.walk_stmt-returns-in-Send-clause-least
walk_stmt-returns-in-Send-clause-least t c =
    simp (c.in-Send.is, places_send, judged_all_append) (rw (c.judge_use-in-Send-2.ensures, c.judge_range.ensures (site_of c.args.scope.now), c.judge_use-in-Send.ensures, c.walk_expr-in-Send.ensures, c.judge_act.ensures))

pub walk_stmt-returns-in-Advance-clause-least : goal.walk_stmt-returns-in-Advance-clause-least
walk_stmt-returns-in-Advance-clause-least t c = rw (c.in-Advance.is) (c.judge_advance.ensures)

pub walk_stmt-returns-in-While-clause-least : goal.walk_stmt-returns-in-While-clause-least
walk_stmt-returns-in-While-clause-least t c =
    simp (c.in-While.is, places_while, judged_all_append) (rw (c.judge_loop.ensures (site_of c.args.scope.now), c.is_some.ensures, c.walk_stmts-body.ensures.quiet, c.walk_stmts-body.ensures.advances, c.walk_stmts-body.ensures.least, c.as_slice-in-While.ensures, c.judge_most.ensures (site_of c.args.scope.now), c.walk_expr-in-While.ensures))

pub walk_stmt-returns-in-Return-clause-least : goal.walk_stmt-returns-in-Return-clause-least
walk_stmt-returns-in-Return-clause-least t c = simp (c.in-Return.is, places_return, judged_all_append) (cc)

pub walk_stmt-returns-in-None-clause-least : goal.walk_stmt-returns-in-None-clause-least
walk_stmt-returns-in-None-clause-least t c =
    simp (c.in-If.is, c.in-None.is, places_if, judged_all_append) (rw (c.walk_stmts-branch.ensures.least, c.as_slice.ensures, c.walk_expr-in-If.ensures))

pub walk_stmt-returns-in-Some-clause-least : goal.walk_stmt-returns-in-Some-clause-least
walk_stmt-returns-in-Some-clause-least t c =
    simp (c.in-If.is, c.in-Some.is, places_if_else, judged_all_append) (rw (c.walk_stmts-other.ensures.least, c.as_slice-in-Some.ensures, c.walk_stmts-branch.ensures.least, c.as_slice.ensures, c.walk_expr-in-If.ensures))
