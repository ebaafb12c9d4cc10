-- What is left of the proof of `lists::weights_of`.
use Rattle.std.proofs.Common.{◌≡◌, ◌↔◌, ◌+◌, ◌*◌, ◌^◌, ◌<◌, ℕ, List, All, length, Result, Ok, Err, IfOk, slice_index, subst}
use Rattle.std.specs.Result.{IsErrOf}
use Rattle.psy_base.specs.declared.edge.Edge.{Edge}
use Rattle.psy_base.specs.declared.limits.TheConstants.{WINDOW_CELLS}
use Rattle.psy_base.specs.Paths.{FitsDueLast, IsGreatestWeight}
use Rattle.psy_graph.specs.declared.graph.Graph.{Graph}
use Rattle.psy_window.specs.declared.fault.WindowFault.{WindowFault}
use Rattle.psy_window.specs.declared.fault.WindowFault.TheVariants.{Cells}
use Rattle.psy_demand.specs.Criterion.{AreWeights}
use Rattle.psy_demand.proofs.lists.weights_of.Goals as goal

-- The weights that are given are the graph's.
are_weights : (top : ℕ) (graph : Graph) (edges : List Edge) (r : Result (List ℕ) WindowFault) → edges ≡ graph.edges → IfOk r (λ ws. length ws ≡ top + 1)
    → IfOk r (λ ws. (within : ℕ) → within < top + 1 → IsGreatestWeight edges (FitsDueLast within) (slice_index ws within)) → IfOk r (All (λ w. w < 2 ^ 50)) → IfOk r (AreWeights top graph)
are_weights top graph edges (Ok ws) same long greatest small = record {
  count = long;
  greatest = subst (λ es. (within : ℕ) → within < top + 1 → IsGreatestWeight es (FitsDueLast within) (slice_index ws within)) same greatest;
  small = small;
}
are_weights top graph edges (Err fault) same long greatest small = tt

pub returns-clause-list : goal.returns-clause-list
returns-clause-list c = are_weights c.args.top c.args.graph.now c.as_slice.result.now c.weights.result c.as_slice.ensures c.weights.ensures.length c.weights.ensures.greatest c.weights.ensures.small

pub returns-clause-cells : goal.returns-clause-cells
returns-clause-cells c = subst (λ nodes. IsErrOf c.weights.result Cells ↔ (WINDOW_CELLS < nodes * (c.args.top + 1))) c.len-nodes.ensures c.weights.ensures.cells
