-- The edges of graphs.
use Rattle.std.proofs.Common.{◌≡◌, ℕ, List, zero, suc, [], ◌∷◌, slice_get, Some, refl}
use Rattle.psy_base.specs.declared.edge.Edge.{Edge}
use Rattle.psy_graph.specs.declared.graph.Graph.{Graph}
use Rattle.psy_demand.specs.Criterion.{edges_of}

-- The edges by a number are those of a graph.
pub edges_at : (graphs : List Graph) (i : ℕ) (edges : List Edge) → slice_get (edges_of graphs) i ≡ Some edges → (graph : Graph) × (slice_get graphs i ≡ Some graph) × (graph.edges ≡ edges)
edges_at [] i edges at = cc
edges_at (graph ∷ graphs) zero edges at = (graph, refl, cc)
edges_at (graph ∷ graphs) (suc i) edges at = edges_at graphs i edges at
