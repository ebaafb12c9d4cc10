-- What each loop of `near::differ_by_one` keeps.
use Rattle.std.proofs.Common.{◌≡◌, length}
use Rattle.psy_near.specs.Near.{differ_by_one}
use Rattle.psy_near.proofs.near.differ_by_one.Given as goal

abbrev pub invariant-each : goal.invariant-each
invariant-each l = differ_by_one l.left l.right ≡ differ_by_one l.name l.other

abbrev pub decreases-each : goal.decreases-each
decreases-each l = length l.left
