-- What each loop of `sought::first_of` keeps.
use Rattle.std.proofs.Common.{◌≡◌, length, map}
use Rattle.psy_slip.specs.Searches.{first_of}
use Rattle.psy_slip.proofs.sought.first_of.Given as goal

abbrev pub invariant-each : goal.invariant-each
invariant-each l = first_of l.sought (map (λ w. w.now) l.rest) ≡ first_of l.sought (map (λ w. w.now) l.words)

abbrev pub decreases-each : goal.decreases-each
decreases-each l = length l.rest
