-- What each loop of `sums::sum_up` keeps.
use Rattle.std.proofs.Common.{◌≡◌, ℕ, ◌+◌, ◌*◌, ◌<◌, ◌≤◌, All, length, slice_index}
use Rattle.psy_base.specs.declared.limits.TheConstants.{BUDGET, WINDOW_CELLS}
use Rattle.psy_meaning.specs.Demand.{IsDemand}
use Rattle.psy_demand.specs.Criterion.{edges_of}
use Rattle.psy_demand.specs.Sums.{first_edges}
use Rattle.psy_demand.proofs.sums.sum_up.Given as goal

abbrev pub invariant-loop-agent : goal.invariant-loop-agent
invariant-loop-agent l = record {
  count : length l.sums ≡ l.top + 1;
  demand : (within : ℕ) → within < l.top + 1 → IsDemand (first_edges l.homes l.processor (edges_of l.graphs) l.agent) within (slice_index l.sums within);
  small : All (λ sum. sum ≤ l.agent * (BUDGET * WINDOW_CELLS)) l.sums;
}
