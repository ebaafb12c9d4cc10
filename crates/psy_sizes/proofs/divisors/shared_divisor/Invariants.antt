-- What each loop of `divisors::shared_divisor` keeps.
use Rattle.psy_sizes.proofs.Sharing.{Shares, periods_before}
use Rattle.psy_sizes.proofs.divisors.shared_divisor.Given as goal

abbrev pub invariant-points : goal.invariant-points
invariant-points l = Shares (periods_before l.clocks l.points l.point) l.period l.shared
