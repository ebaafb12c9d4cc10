-- What each loop of `expr::+expr` keeps.
use Rattle.std.proofs.Common.{◌≡◌, ◌+◌, ◌*◌, ◌≤◌}
use Rattle.psy_parse.specs.Reading.{left, climb_at, others_at}
use Rattle.psy_parse.proofs.expr.+expr.Given as goal

-- At one depth a function calls those below it alone
abbrev pub decreases-operand : goal.decreases-operand
decreases-operand l = 8 * l.depth + 4

abbrev pub decreases-primary : goal.decreases-primary
decreases-primary l = 8 * l.depth + 3

abbrev pub decreases-behind_name : goal.decreases-behind_name
decreases-behind_name l = 8 * l.depth + 2

abbrev pub decreases-cast : goal.decreases-cast
decreases-cast l = 8 * l.depth + 2

abbrev pub decreases-args : goal.decreases-args
decreases-args l = 8 * l.depth + 1

abbrev pub decreases-others : goal.decreases-others
decreases-others l = 8 * l.depth

abbrev pub decreases-climb : goal.decreases-climb
decreases-climb l = 8 * l.depth

abbrev pub decreases-expr : goal.decreases-expr
decreases-expr l = 8 * l.depth

-- What is left to read gives what there was to read in the beginning
abbrev pub invariant-climb-loop-depth : goal.invariant-climb-loop-depth
invariant-climb-loop-depth l = record {
  depth : l.depth ≤ l.fn.depth;
  reading : climb_at l.depth l.level l.whole (left l.rest) ≡ climb_at l.fn.depth l.level l.fn.first (left l.fn.cursor);
}

abbrev pub decreases-climb-loop-depth : goal.decreases-climb-loop-depth
decreases-climb-loop-depth l = l.depth

abbrev pub invariant-others-loop-depth : goal.invariant-others-loop-depth
invariant-others-loop-depth l = record {
  depth : l.depth ≤ l.fn.depth;
  reading : others_at l.depth l.args (left l.rest) ≡ others_at l.fn.depth l.fn.first (left l.fn.cursor);
}

abbrev pub decreases-others-loop-depth : goal.decreases-others-loop-depth
decreases-others-loop-depth l = l.depth
