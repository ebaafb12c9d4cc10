-- What each loop of `numbers::greatest` keeps.
use Rattle.std.proofs.Common.{◌≡◌, length, map}
use Rattle.psy_slip.specs.Numbers.{greatest}
use Rattle.psy_slip.proofs.numbers.greatest.Given as goal

abbrev pub invariant-each : goal.invariant-each
invariant-each l = greatest l.most (map (λ w. w.now) l.rest) ≡ greatest l.word (map (λ w. w.now) l.words)

abbrev pub decreases-each : goal.decreases-each
decreases-each l = length l.rest
