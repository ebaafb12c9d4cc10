-- What is left of the proof of `expressions::+expr`.
use Rattle.std.proofs.Common.{map, take, sym, ap, ◌∙◌, arith}
use Rattle.psy_meaning.specs.Depths.{stacked, expr_depth, Depth}
use Rattle.psy_tree.specs.declared.unit.Expr.{Expr}
use Rattle.psy_flow.specs.Counted.{held, capped_depth}
use Rattle.psy_flow.proofs.Capped.{capped_argument}
use Rattle.psy_flow.proofs.Lists.{stacked_more}
use Rattle.psy_flow.proofs.expressions.+expr.Goals as goal

pub depth_of_arguments-loop-argument-preserved : goal.depth_of_arguments-loop-argument-preserved
depth_of_arguments-loop-argument-preserved t c =
    let depth : Expr → Depth = expr_depth (map held c.args.functions.now) in
    let before : Depth = stacked 0 (map depth (take c.loop-argument.argument-index c.args.arguments.now)) in
    record {
      depths = c.or-depths.ensures
          ∙ capped_argument c.loop-argument.argument-index c.loop-argument.before (held c.loop-argument.depths) before (held c.depth_of_expr-here.result) (depth c.argument-item.result) (held c.on_top_of.result)
          c.loop-argument.invariant.before c.loop-argument.invariant.depths c.depth_of_expr-here.ensures c.on_top_of.ensures
          ∙ ap capped_depth (sym (stacked_more depth c.args.arguments.now c.loop-argument.argument-index c.argument-item.result c.loop-argument-test.true (sym c.argument-item.is)));
      before = omega arith;
    }
