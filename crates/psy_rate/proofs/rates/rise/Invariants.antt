-- What each loop of `rates::rise` keeps.
use Rattle.std.proofs.Common.{ℕ, ◌-◌, ◌*◌, ◌≤◌}
use Rattle.psy_base.specs.declared.limits.TheConstants.{BUDGET}
use Rattle.psy_rate.specs.Lines.{Allows}
use Rattle.psy_rate.specs.declared.line.TheConstants.{SCALE}
use Rattle.psy_rate.proofs.rates.rise.Given as goal

abbrev pub invariant-loop-intercept : goal.invariant-loop-intercept
invariant-loop-intercept l = (less : ℕ) → Allows l.edges less → l.rate ≤ less

abbrev pub decreases-loop-intercept : goal.decreases-loop-intercept
decreases-loop-intercept l = SCALE * BUDGET - l.rate
