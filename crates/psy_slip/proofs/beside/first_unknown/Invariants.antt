-- What each loop of `beside::first_unknown` keeps.
use Rattle.std.proofs.Common.{◌≡◌, length, map}
use Rattle.psy_slip.specs.Besides.{first_unknown}
use Rattle.psy_slip.proofs.beside.first_unknown.Given as goal

abbrev pub invariant-each : goal.invariant-each
invariant-each l = first_unknown (map (λ w. w.now) l.rest) l.tokens ≡ first_unknown (map (λ w. w.now) l.names) l.tokens

abbrev pub decreases-each : goal.decreases-each
decreases-each l = length l.rest
