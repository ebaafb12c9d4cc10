-- The numbers of a graph lie near: phases since its places were found one by one, each no farther than a step behind another.
use Rattle.std.proofs.Common.{◌≡◌, sym, subst, inl, inr, ℕ, ◌+◌, ◌*◌, ◌<◌, ◌≤◌, map, length, get_or, arith}
use Rattle.std.specs.List.{All, Contains}
use Rattle.std.proofs.lemmas.List.Elements.{All-contains, All-map, Contains-get_or}
use Rattle.psy_base.specs.declared.edge.Edge.{Edge}
use Rattle.psy_base.specs.declared.limits.TheConstants.{NODES}
use Rattle.psy_graph.proofs.lemmas.MayStarts.{may_point}
use Rattle.psy_lists.proofs.lemmas.Members.{contains_map, all_members, all_unmapped}
use Rattle.psy_meaning.specs.Graph.{Spot}
use Rattle.psy_meaning.specs.Timing.{Timing, deadline, following}
use Rattle.psy_graph.specs.declared.graph.Graph.{Graph}
use Rattle.psy_graph.specs.declared.graph.Node.{Node}
use Rattle.psy_graph.specs.Drawn.{first_edges}
use Rattle.psy_graph.specs.Graphs.{IsGraphOf, IsSmall, IsTimed, spot_of}
use Rattle.psy_graph.specs.Near.{IsNear, IsNearNode}
use Rattle.psy_graph.specs.Places.{spot_by}
use Rattle.psy_graph.specs.Steps.{STEP}
use Rattle.psy_graph.proofs.EdgesKept.{budget_small, due_by_end}
use Rattle.psy_graph.proofs.Explored.{drawn_is}
use Rattle.psy_graph.proofs.Links.{ComesLate}
use Rattle.psy_graph.proofs.Phases.{ComesAgain, ComesNear, end_near}
use Rattle.psy_graph.proofs.Reached.{all_places}
use Rattle.psy_graph.proofs.lemmas.Unique.{drawn_spots, small_passes_no_nodes}

module _ (again : ComesAgain) (late : ComesLate) (near : ComesNear) (timing : Timing) (timed : IsTimed timing) (graph : Graph) (drawn : IsGraphOf timing graph) (small : IsSmall graph) where
  phases : All (λ node. node.phase ≤ STEP * NODES) graph.nodes
  phases = elim (all_places again timing timed) [
    | inl found ↦ (
        let same = drawn_spots timing (map spot_of graph.nodes) (map spot_by found.0) graph.edges (first_edges timing found.0 (length found.0)) drawn.drawn (drawn_is again late timing timed found.0 found.1) in
        let P : Spot → Type 0 = λ spot. spot.phase ≤ STEP * NODES in
        all_unmapped P spot_of graph.nodes (subst (All P) (sym same) (All-map P spot_by found.0 (found.3 near))))
    | inr many ↦ absurd (small_passes_no_nodes timing graph drawn small many)
  ]

  due_near : (node : Node) → Contains graph.nodes node → (start : ℕ) → node.point < length timing.points → start + node.due ≡ deadline timing node.point start → node.due ≤ STEP
  due_near node there start known is =
      let next = get_or (following timing node.point) 0 0 in
      let follows = Contains-get_or (following timing node.point) 0 0 (omega (arith, timed.some node.point known)) in
      let within = timed.within node.point next follows in
      omega (arith, is, due_by_end late timing timed node.point start next follows, end_near near timing timed start next within.0 within.1)

  node_near : (node : Node) → Contains graph.nodes node → IsNearNode node
  node_near node there =
      let met = (drawn.drawn.nodes.all (spot_of node)).0 (contains_map spot_of graph.nodes node there) in
      let known = may_point timing timed node.point met.0 met.1 in
      let budget = drawn.budgets node there in
      record {
        point = omega (arith, known, timed.few);
        phase = All-contains (λ n. n.phase ≤ STEP * NODES) graph.nodes node phases there;
        due = due_near node there met.0 known (drawn.dues drawn.drawn.cycle drawn.drawn.is_cycle node met.0 there met.1 (sym met.2));
        budget = omega (arith, budget, budget_small late timing timed node.point);
      }

  length_near : (edge : Edge) → Contains graph.edges edge → edge.len ≤ STEP
  length_near edge there =
      let (point, start, to, its) = (drawn.drawn.links.all edge).0 there in
      let within = timed.within point to its.follows in
      let len = its.len in
      omega (arith, len, end_near near timing timed start to within.0 within.1)

  pub graph_near : IsNear graph
  graph_near = record { nodes = all_members IsNearNode graph.nodes node_near; lengths = all_members (λ edge. edge.len ≤ STEP) graph.edges length_near }
