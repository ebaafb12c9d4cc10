-- What each loop of `statement::is_among` keeps.
use Rattle.std.proofs.Common.{◌≡◌, length, map}
use Rattle.psy_slip.specs.Statements.{is_among}
use Rattle.psy_slip.proofs.statement.is_among.Given as goal

abbrev pub invariant-each : goal.invariant-each
invariant-each l = is_among l.statement (map (λ w. w.now) l.rest) l.word ≡ is_among l.statement (map (λ w. w.now) l.words) l.word

abbrev pub decreases-each : goal.decreases-each
decreases-each l = length l.rest
