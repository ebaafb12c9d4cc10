-- What each loop of `look::first_said` keeps.
use Rattle.std.proofs.Common.{◌≡◌, length}
use Rattle.psy_slip.specs.Looks.{first_said}
use Rattle.psy_slip.proofs.look.first_said.Given as goal

abbrev pub invariant-each : goal.invariant-each
invariant-each l = first_said l.rest ≡ first_said l.text

abbrev pub decreases-each : goal.decreases-each
decreases-each l = length l.rest
