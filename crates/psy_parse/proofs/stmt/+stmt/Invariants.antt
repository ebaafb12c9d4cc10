-- What each loop of `stmt::+stmt` keeps.
use Rattle.std.proofs.Common.{◌≡◌, ◌+◌, ◌*◌, ◌≤◌}
use Rattle.psy_parse.specs.Reading.{left, block_at}
use Rattle.psy_parse.proofs.stmt.+stmt.Given as goal

-- At one depth a function calls those below it alone
abbrev pub decreases-stmt : goal.decreases-stmt
decreases-stmt l = 4 * l.depth + 3

abbrev pub decreases-if_stmt : goal.decreases-if_stmt
decreases-if_stmt l = 4 * l.depth + 2

abbrev pub decreases-while_stmt : goal.decreases-while_stmt
decreases-while_stmt l = 4 * l.depth + 2

abbrev pub decreases-block_in_braces : goal.decreases-block_in_braces
decreases-block_in_braces l = 4 * l.depth + 1

abbrev pub decreases-block : goal.decreases-block
decreases-block l = 4 * l.depth

-- What is left to read gives what there was to read in the beginning
abbrev pub invariant-block-loop-depth : goal.invariant-block-loop-depth
invariant-block-loop-depth l = record {
  depth : l.depth ≤ l.fn.depth;
  reading : block_at l.depth l.stmts (left l.rest) ≡ block_at l.fn.depth l.fn.first (left l.fn.cursor);
}

abbrev pub decreases-block-loop-depth : goal.decreases-block-loop-depth
decreases-block-loop-depth l = l.depth
