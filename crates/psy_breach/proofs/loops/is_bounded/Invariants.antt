-- What each loop of `loops::is_bounded` keeps.
use Rattle.std.proofs.Common.{◌≡◌, length}
use Rattle.psy_breach.specs.Loops.{is_bounded}
use Rattle.psy_breach.proofs.loops.is_bounded.Given as goal

abbrev pub invariant-each : goal.invariant-each
invariant-each l = is_bounded l.rest ≡ is_bounded l.back

abbrev pub decreases-each : goal.decreases-each
decreases-each l = length l.rest
