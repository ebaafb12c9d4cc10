-- What each loop of `mend::cut_to` keeps.
use Rattle.std.proofs.Common.{◌≡◌, ◌≤◌, length, take}
use Rattle.psy_expect.proofs.mend.cut_to.Given as goal

abbrev pub invariant-each : goal.invariant-each
invariant-each l = record { enough : l.many ≤ length l.front; same : take l.many l.front ≡ take l.many l.fn.front }

abbrev pub decreases-each : goal.decreases-each
decreases-each l = length l.front
