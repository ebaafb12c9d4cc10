-- What each loop of `byte::closes_first` keeps.
use Rattle.std.proofs.Common.{◌≡◌, length}
use Rattle.psy_where.specs.Bytes.{closes_first}
use Rattle.psy_where.proofs.byte.closes_first.Given as goal

abbrev pub invariant-each : goal.invariant-each
invariant-each l = closes_first l.rest ≡ closes_first l.bytes

abbrev pub decreases-each : goal.decreases-each
decreases-each l = length l.rest
