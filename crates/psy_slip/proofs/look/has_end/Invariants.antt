-- What each loop of `look::has_end` keeps.
use Rattle.std.proofs.Common.{◌≡◌, length}
use Rattle.psy_slip.specs.Looks.{has_end}
use Rattle.psy_slip.proofs.look.has_end.Given as goal

abbrev pub invariant-each : goal.invariant-each
invariant-each l = has_end l.rest ≡ has_end l.text

abbrev pub decreases-each : goal.decreases-each
decreases-each l = length l.rest
