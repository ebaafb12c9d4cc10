-- What each loop of `heights::begin` keeps.
use Rattle.std.proofs.Common.{length}
use Rattle.psy_judge.proofs.RowsTaken.{AreBegun}
use Rattle.psy_judge.proofs.heights.begin.Given as goal

abbrev pub invariant-starts : goal.invariant-starts
invariant-starts l = AreBegun (length l.code.instrs) l.starts l.start-index l.row
