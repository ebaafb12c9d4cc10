-- What each loop of `circles::lift` keeps.
use Rattle.std.proofs.Common.{◌≡◌, length}
use Rattle.psy_flow.specs.Owners.{Owner}
use Rattle.psy_judge.specs.Climbing.{IsLifted}
use Rattle.psy_judge.specs.Highest.{AreFound, AreSmall}
use Rattle.psy_judge.proofs.circles.lift.Given as goal

abbrev pub invariant-places : goal.invariant-places
invariant-places l = record {
  count : length l.row ≡ length l.code.instrs;
  small : AreSmall (length l.code.instrs) l.row;
  lifted : (owner : Owner) → AreFound l.code owner l.fn.row → IsLifted l.code owner l.fn.row l.row;
}
