-- What is left of the proof of `statements::+stmt`.
use Rattle.std.proofs.Common.{map, take, sym, ap, ◌∙◌}
use Rattle.psy_meaning.specs.Depths.{Depth, stmt_depth, stmts_depth}
use Rattle.psy_tree.specs.declared.unit.Stmt.{Stmt}
use Rattle.psy_flow.specs.Counted.{held, capped_depth}
use Rattle.psy_flow.proofs.Capped.{capped_next}
use Rattle.psy_flow.proofs.Lists.{deepest_more}
use Rattle.psy_flow.proofs.statements.+stmt.Goals as goal

pub depth_of_stmts-loop-stmt-preserved : goal.depth_of_stmts-loop-stmt-preserved
depth_of_stmts-loop-stmt-preserved t c =
    let functions = map held c.args.functions.now in
    let depth : Stmt → Depth = stmt_depth functions in
    c.or-depths.ensures
    ∙ capped_next (held c.loop-stmt.depths) (stmts_depth functions (take c.loop-stmt.stmt-index c.args.stmts.now)) (held c.depth_of_stmt.result) (depth c.stmt-item.result) c.loop-stmt.invariant c.depth_of_stmt.ensures
    ∙ ap capped_depth (sym (deepest_more depth c.args.stmts.now c.loop-stmt.stmt-index c.stmt-item.result c.loop-stmt-test.true (sym c.stmt-item.is)))
