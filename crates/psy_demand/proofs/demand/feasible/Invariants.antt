-- What each loop of `demand::feasible` keeps.
use Rattle.std.proofs.Common.{ℕ, ◌*◌, ◌<◌, ◌≤◌}
use Rattle.psy_demand.specs.Demand.{demand}
use Rattle.psy_demand.proofs.demand.feasible.Given as goal

abbrev pub invariant-loop-length : goal.invariant-loop-length
invariant-loop-length l = (less : ℕ) → 1 ≤ less → less < l.length → demand l.lists less ≤ l.quantum * less
