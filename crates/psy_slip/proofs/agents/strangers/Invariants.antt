-- What each loop of `agents::strangers` keeps.
use Rattle.std.proofs.Common.{◌≡◌, ◌++◌, length, map}
use Rattle.psy_slip.specs.Agents.{strangers}
use Rattle.psy_slip.proofs.agents.strangers.Given as goal

abbrev pub invariant-each : goal.invariant-each
invariant-each l = map (λ w. w.now) l.found.items ++ strangers l.text (map (λ w. w.now) l.rest) ≡ strangers l.text (map (λ w. w.now) l.names)

abbrev pub decreases-each : goal.decreases-each
decreases-each l = length l.rest
