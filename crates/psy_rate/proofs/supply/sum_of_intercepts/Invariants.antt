-- What each loop of `supply::sum_of_intercepts` keeps.
use Rattle.std.proofs.Common.{◌≡◌, ◌*◌, ◌^◌, ◌≤◌, take}
use Rattle.psy_rate.specs.Horizons.{intercept_of}
use Rattle.psy_rate.proofs.supply.sum_of_intercepts.Given as goal

abbrev pub invariant-loop-line : goal.invariant-loop-line
invariant-loop-line l = (l.sum ≡ intercept_of (take l.line-index l.lines)) × (l.sum ≤ l.line-index * 2 ^ 50)
