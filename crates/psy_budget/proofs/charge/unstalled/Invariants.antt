-- What each loop of `charge::unstalled` keeps.
use Rattle.std.proofs.Common.{length, ◌-◌}
use Rattle.psy_budget.proofs.Gaps.{CostNothing}
use Rattle.psy_budget.proofs.charge.unstalled.Given as goal

abbrev pub invariant-stalls : goal.invariant-stalls
invariant-stalls l = CostNothing l.stalls l.place l.action l.paid

abbrev pub decreases-stalls : goal.decreases-stalls
decreases-stalls l = length l.stalls - l.place
