-- What is drawn can be told: the names of agents are words, and the numbers of graphs have the bits of their places.
use Rattle.std.proofs.Common.{◌≡◌, refl, subst, ℕ, zero, suc, ◌≤◌, List, [], ◌∷◌, All, length, get_or, slice_get, Some, arith}
use Rattle.std.specs.List.{AllByRecursion}
use Rattle.std.proofs.lemmas.List.Elements.{All-weaker, recursion_from_All}
use Rattle.std.proofs.lemmas.Option.{get_or_from_slice_get, slice_get_within}
use Rattle.psy_base.specs.declared.edge.Edge.{Edge}
use Rattle.psy_base.specs.declared.limits.TheConstants.{COST, EDGES, NODES}
use Rattle.psy_text.specs.Fronts.{IsName}
use Rattle.psy_graph.specs.declared.graph.Graph.{Graph}
use Rattle.psy_graph.specs.declared.graph.Node.{Node}
use Rattle.psy_graph.specs.Graphs.{AreGraphs}
use Rattle.psy_graph.specs.Near.{IsNear, IsNearNode}
use Rattle.psy_graph.specs.Steps.{STEP}
use Rattle.psy_meaning.specs.Units.{IsBare}
use Rattle.psy_notes.specs.Notes.{IsLong}
use Rattle.psy_tree.specs.declared.unit.AgentDecl.{AgentDecl}
use Rattle.psy_tree.specs.declared.unit.Unit.{Unit as Whole}
use Rattle.psy_window.specs.Windows.{IsEdge}
use Rattle.psy_agree.proofs.GraphNotes.{AreTellableGraphs, IsTellableEdge, IsTellableGraph, IsTellableNode}

-- What all keep, the one at a place keeps
at_place : {X : Type 0} (P : X → Type 0) (xs : List X) (i : ℕ) (x : X) → All P xs → slice_get xs i ≡ Some x → P x
at_place P xs i x all at = subst P (get_or_from_slice_get xs i x x at) (all i x (slice_get_within xs i x at))

-- What all keep, and 0, the one that is found keeps
found : (P : ℕ → Type 0) (xs : List ℕ) (k : ℕ) → AllByRecursion P xs → P 0 → P (get_or xs k 0)
found P [] k all none = none
found P (x ∷ xs) zero all none = all.0
found P (x ∷ xs) (suc k) all none = found P xs k all.1 none

node_tellable : (node : Node) → IsNearNode node → IsTellableNode node
node_tellable node near = (omega (arith, near.point), omega (arith, near.phase), omega (arith, near.budget), omega (arith, near.due))

edges_tellable : (nodes : ℕ) (edges : List Edge) → AllByRecursion (IsEdge nodes) edges → AllByRecursion (λ (edge : Edge). edge.len ≤ STEP) edges → AllByRecursion (IsTellableEdge nodes) edges
edges_tellable nodes [] are lengths = tt
edges_tellable nodes (edge ∷ edges) are lengths = let len = lengths.0 in ((are.0.from, are.0.to, omega (arith, len)), edges_tellable nodes edges are.1 lengths.1)

graph_tellable : (graph : Graph) (costs : List ℕ) → length graph.nodes ≤ NODES → length graph.edges ≤ EDGES → IsNear graph → All (IsEdge (length graph.nodes)) graph.edges → All (λ cost. cost ≤ COST) costs → IsTellableGraph graph costs
graph_tellable graph costs few_nodes few_edges near edges small = record {
  few_nodes = few_nodes;
  few_edges = few_edges;
  nodes = recursion_from_All IsTellableNode graph.nodes (All-weaker IsNearNode IsTellableNode node_tellable graph.nodes near.nodes);
  edges = edges_tellable (length graph.nodes) graph.edges (recursion_from_All (IsEdge (length graph.nodes)) graph.edges edges) (recursion_from_All (λ (edge : Edge). edge.len ≤ STEP) graph.edges near.lengths);
  worst = λ point. found IsLong costs point (recursion_from_All IsLong costs (All-weaker (λ cost. cost ≤ COST) IsLong (λ cost within. omega (arith, within)) costs small)) (omega arith);
}

-- By agent
all_tellable : (agents : List AgentDecl) (graphs : List Graph) (costs : List (List ℕ)) → AllByRecursion (λ (agent : AgentDecl). IsName agent.name) agents
    → ((number : ℕ) (graph : Graph) (list : List ℕ) → slice_get graphs number ≡ Some graph → slice_get costs number ≡ Some list → IsTellableGraph graph list) → AreTellableGraphs agents graphs costs
all_tellable (agent ∷ agents) (graph ∷ graphs) (list ∷ costs) named each =
    (named.0, each 0 graph list refl refl, all_tellable agents graphs costs named.1 (λ number. each (suc number)))
all_tellable [] graphs costs named each = tt
all_tellable (agent ∷ agents) [] costs named each = tt
all_tellable (agent ∷ agents) (graph ∷ graphs) [] named each = tt

pub graphs_tellable : (unit : Whole) (graphs : List Graph) (costs : List (List ℕ)) → IsBare unit → AreGraphs unit graphs → All IsNear graphs → All (λ (graph : Graph). All (IsEdge (length graph.nodes)) graph.edges) graphs
    → ((number : ℕ) (list : List ℕ) → slice_get costs number ≡ Some list → All (λ cost. cost ≤ COST) list) → AreTellableGraphs unit.agents graphs costs
graphs_tellable unit graphs costs bare are near edges small =
    all_tellable unit.agents graphs costs (recursion_from_All (λ (agent : AgentDecl). IsName agent.name) unit.agents (λ k d less. (bare.agents k d less).name))
    (λ number graph list at at_costs. (
    let few = (are.each number graph at).3 in
    graph_tellable graph list few.0 few.1 (at_place IsNear graphs number graph near at) (at_place (λ (g : Graph). All (IsEdge (length g.nodes)) g.edges) graphs number graph edges at) (small number list at_costs)))
