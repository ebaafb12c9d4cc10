-- What each loop of `numbers::number_behind` keeps.
use Rattle.std.proofs.Common.{◌≡◌, length}
use Rattle.psy_breach.specs.Numbers.{number_behind}
use Rattle.psy_breach.proofs.numbers.number_behind.Given as goal

abbrev pub invariant-each : goal.invariant-each
invariant-each l = number_behind l.rest l.word ≡ number_behind l.tokens l.word

abbrev pub decreases-each : goal.decreases-each
decreases-each l = length l.rest
