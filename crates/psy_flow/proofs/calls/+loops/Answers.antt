-- What is left of the proof of `calls::+loops`.
use Rattle.std.proofs.Common.{sym, arith}
use Rattle.psy_meaning.specs.Depths as depths
use Rattle.psy_flow.proofs.Lists.{total_more}
use Rattle.psy_flow.proofs.calls.+loops.Goals as goal

pub loops_in-loop-stmt-preserved : goal.loops_in-loop-stmt-preserved
loops_in-loop-stmt-preserved t c =
    omega (arith, total_more depths.loops c.args.stmts.now c.loop-stmt.stmt-index c.stmt-item.result c.loop-stmt-test.true (sym c.stmt-item.is))
