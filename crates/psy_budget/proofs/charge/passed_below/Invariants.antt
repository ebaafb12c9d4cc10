-- What each loop of `charge::passed_below` keeps.
use Rattle.std.proofs.Common.{length, ◌-◌, ℕ, ◌≤◌}
use Rattle.psy_budget.specs.Standing.{AreSplit}
use Rattle.psy_budget.proofs.charge.passed_below.Given as goal

abbrev pub invariant-stalls : goal.invariant-stalls
invariant-stalls l = (n : ℕ) × (n ≤ l.instr) × AreSplit l.stalls l.place l.action n

abbrev pub decreases-stalls : goal.decreases-stalls
decreases-stalls l = length l.stalls - l.place
