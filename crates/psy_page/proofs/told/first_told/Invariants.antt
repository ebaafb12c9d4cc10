-- What each loop of `told::first_told` keeps.
use Rattle.std.proofs.Common.{◌≡◌, length, map}
use Rattle.psy_page.specs.Told.{first_some, said}
use Rattle.psy_page.proofs.told.first_told.Given as goal

abbrev pub invariant-each : goal.invariant-each
invariant-each l = first_some (map said l.rest) ≡ first_some (map said l.told)

abbrev pub decreases-each : goal.decreases-each
decreases-each l = length l.rest
