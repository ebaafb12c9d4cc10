-- What each loop of `names::listed` keeps.
use Rattle.std.proofs.Common.{◌≡◌, ◌++◌, length, map}
use Rattle.psy_slip.specs.Listings.{listed}
use Rattle.psy_slip.proofs.names.listed.Given as goal

abbrev pub invariant-each : goal.invariant-each
invariant-each l = l.list.items ++ listed l.last (map (λ w. w.now) l.left) ≡ listed l.last (map (λ w. w.now) l.names)

abbrev pub decreases-each : goal.decreases-each
decreases-each l = length l.left
