-- What each loop of `expressions::+expr` keeps.
use Rattle.std.proofs.Common.{◌≡◌, map, take}
use Rattle.psy_meaning.specs.Depths.{stacked, expr_depth}
use Rattle.psy_flow.specs.Counted.{held, capped_depth}
use Rattle.psy_flow.proofs.expressions.+expr.Given as goal

abbrev pub invariant-depth_of_arguments-loop-argument : goal.invariant-depth_of_arguments-loop-argument
invariant-depth_of_arguments-loop-argument l = record {
  depths : held l.depths ≡ capped_depth (stacked 0 (map (expr_depth (map held l.functions)) (take l.argument-index l.arguments)));
  before : l.before ≡ l.argument-index;
}
