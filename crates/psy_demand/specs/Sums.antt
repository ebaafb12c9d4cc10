-- The demand on a processor as agent after agent is taken in.
use Rattle.std.specs.Prelude.{◌≡◌, ◌==◌, ℕ, ◌+◌, ◌*◌, ◌<◌, ◌≤◌, Bool, if◌then◌else◌, List, [], get_or, length, map, slice_index}
use Rattle.std.specs.List.{range_with_len}
use Rattle.psy_base.specs.declared.edge.Edge.{Edge}
use Rattle.psy_base.specs.declared.limits.TheConstants.{BUDGET, WINDOW_CELLS}
use Rattle.psy_base.specs.Paths.{FitsDueLast, IsGreatestWeight}
use Rattle.psy_graph.specs.declared.graph.Graph.{Graph}

-- The edges of an agent where it is the processor's own, and none where it isn't
abbrev pub own_edges : Bool → List Edge → List Edge
own_edges own edges = if own then edges else []

-- By agent, the edges of the first agents, of which there are so many, where their processor is this one, and none where it is another
abbrev pub first_edges : List ℕ → ℕ → List (List Edge) → ℕ → List (List Edge)
first_edges homes processor graphs count = map (λ agent. own_edges (get_or homes agent 0 == processor) (get_or graphs agent [])) (range_with_len 0 count)

-- At each length the sum grew by the demand of the graph's agent, where it is the processor's own, and by nothing where it isn't.
pub record HasTakenIn (graph : Graph) (own : Bool) (top : ℕ) (before sums : List ℕ) : Type 0 where
  pub count : length sums ≡ length before
  pub grown : (within : ℕ) → within < top + 1 → (weight : ℕ) × IsGreatestWeight (own_edges own graph.edges) (FitsDueLast within) weight
      × (weight ≤ BUDGET * WINDOW_CELLS) × (slice_index sums within ≡ slice_index before within + weight)
