-- What each loop of `beside::add_left_out` keeps.
use Rattle.std.proofs.Common.{◌≡◌, ◌++◌, length, map}
use Rattle.psy_slip.specs.Besides.{left_out}
use Rattle.psy_slip.proofs.beside.add_left_out.Given as goal

abbrev pub invariant-each : goal.invariant-each
invariant-each l = l.out.items ++ left_out (map (λ w. w.now) l.names) l.rest ≡ l.fn.out.items ++ left_out (map (λ w. w.now) l.names) l.tokens

abbrev pub decreases-each : goal.decreases-each
decreases-each l = length l.rest
