-- What is left of the proof of `counts::+advances`.
use Rattle.std.proofs.Common.{sym, arith}
use Rattle.psy_rules.proofs.Judging.{advances_more}
use Rattle.psy_rules.proofs.counts.+advances.Goals as goal

pub advances_in-loop-stmt-preserved : goal.advances_in-loop-stmt-preserved
advances_in-loop-stmt-preserved t c =
    omega (arith, advances_more c.args.stmts.now c.loop-stmt.stmt-index c.stmt-item.result c.loop-stmt-test.true (sym c.stmt-item.is))
