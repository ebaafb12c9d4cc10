-- What each loop of `heights::clear` keeps.
use Rattle.std.proofs.Common.{length}
use Rattle.psy_judge.proofs.RowsTaken.{IsLeft}
use Rattle.psy_judge.proofs.heights.clear.Given as goal

abbrev pub invariant-places : goal.invariant-places
invariant-places l = IsLeft (length l.code.instrs) l.places l.place-index l.row
