-- What each loop of `heights::pass` keeps.
use Rattle.std.proofs.Common.{◌≡◌, length}
use Rattle.psy_flow.specs.Owners.{Owner}
use Rattle.psy_judge.specs.Highest.{AreFound, AreSmall, IsCourse}
use Rattle.psy_judge.proofs.RowsTaken.{AreClosedTo}
use Rattle.psy_judge.proofs.heights.pass.Given as goal

abbrev pub invariant-places : goal.invariant-places
invariant-places l = record {
  count : length l.row ≡ length l.code.instrs;
  small : AreSmall (length l.code.instrs) l.row;
  course : (owner : Owner) → AreFound l.code owner l.fn.row → IsCourse l.code owner (AreClosedTo l.code owner l.places l.place-index) l.fn.row l.row l.rose;
}
