-- What each loop of `statement::first_twice` keeps.
use Rattle.std.proofs.Common.{◌≡◌, length, map}
use Rattle.psy_slip.specs.Statements.{first_twice}
use Rattle.psy_slip.proofs.statement.first_twice.Given as goal

abbrev pub invariant-each : goal.invariant-each
invariant-each l = first_twice l.statement (map (λ w. w.now) l.rest) ≡ first_twice l.statement (map (λ w. w.now) l.words)

abbrev pub decreases-each : goal.decreases-each
decreases-each l = length l.rest
