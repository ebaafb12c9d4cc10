-- The graph that is made from the places where an agent's actions start is the agent's.
use Rattle.std.proofs.Common.{◌≡◌, ◌⊎◌, ℕ, ◌+◌, ◌%◌, ◌<◌, ◌≤◌, List, [], ◌∷◌, All, map, length, refl, sym, ap, subst, ◌∙◌, inl, inr, arith}
use Rattle.std.specs.List.{Contains}
use Rattle.std.proofs.lemmas.List.{length-map}
use Rattle.std.proofs.lemmas.List.Elements.{All-contains, All-contains_itself, All-weaker}
use Rattle.psy_base.specs.declared.limits.TheConstants.{NODES, EDGES}
use Rattle.psy_graph.proofs.lemmas.MayStarts.{may_point}
use Rattle.psy_lists.proofs.lemmas.Members.{map_contains}
use Rattle.psy_window.specs.Windows.{IsEdge}
use Rattle.psy_meaning.specs.Timing.{Timing, budget_at, end_date, deadline, MayStart}
use Rattle.psy_meaning.specs.Graph.{IsCycle, IsGraph, PassesNodes, PassesEdges}
use Rattle.psy_graph.specs.declared.graph.Graph.{Graph}
use Rattle.psy_graph.specs.declared.place.Place.{Place}
use Rattle.psy_graph.specs.Graphs.{IsTimed, IsGraphOf, spot_of}
use Rattle.psy_graph.specs.Steps.{cycle_of}
use Rattle.psy_graph.specs.Places.{spot_by, place_at, IsMetAt, ArePlaces}
use Rattle.psy_graph.specs.Drawn.{place_of, node_of, edge_to, first_edges, drawn}
use Rattle.psy_graph.proofs.Periods.{cycle_is, cycle_same}
use Rattle.psy_graph.proofs.Phases.{ComesAgain}
use Rattle.psy_graph.proofs.Reached.{all_places, are_spots}
use Rattle.psy_graph.proofs.Numbers.{number_is}
use Rattle.psy_graph.proofs.Links.{ComesLate, deadline_late, deadline_first, later_by, edge_in, are_edges, next_contained, place_contained}

nodes_spots : (timing : Timing) (places : List Place) → map spot_of (map (node_of timing) places) ≡ map spot_by places
nodes_spots timing [] = refl
nodes_spots timing (p ∷ places) = ap (λ spots. spot_by p ∷ spots) (nodes_spots timing places)

pub drawn_is : ComesAgain → ComesLate → (timing : Timing) → IsTimed timing → (places : List Place) → ArePlaces timing places → IsGraph timing (map spot_by places) (first_edges timing places (length places))
drawn_is again late timing timed places are = record {
  cycle = cycle_of timing;
  is_cycle = cycle_is timing timed;
  nodes = are_spots again timing timed places are;
  links = are_edges again late timing timed places are;
}

-- A node tells how long after its start an action is due.
node_due : ComesAgain → ComesLate → (timing : Timing) → IsTimed timing → (p : Place) (cycle start : ℕ) → IsCycle timing cycle → MayStart timing p.point start → start % cycle ≡ p.phase → start + (node_of timing p).due ≡ deadline timing p.point start
node_due again late timing timed p cycle start is may e =
    let h : p.point < length timing.points = may_point timing timed p.point start may in
    let phase : p.phase ≡ start % cycle_of timing = sym e ∙ ap (λ n. start % n) (cycle_same timing timed cycle is) in
    let later = later_by again timing timed p start h phase in
    let due : p.phase < deadline timing p.point p.phase = deadline_late late timing timed p.point p.phase h in
    omega (arith, later.begins, later.due, due)

pub graph_is : ComesAgain → ComesLate → (timing : Timing) → IsTimed timing → (places : List Place) → ArePlaces timing places → IsGraphOf timing (drawn timing places)
graph_is again late timing timed places are = record {
  drawn = subst (λ spots. IsGraph timing spots (first_edges timing places (length places))) (sym (nodes_spots timing places)) (drawn_is again late timing timed places are);
  dues = λ cycle is node start c. (
      let from = map_contains (node_of timing) places node c in
      subst (λ n. MayStart timing n.point start → start % cycle ≡ n.phase → start + n.due ≡ deadline timing n.point start) from.2 (λ may e. node_due again late timing timed from.0 cycle start is may e));
  budgets = λ node c. (
      let from = map_contains (node_of timing) places node c in
      subst (λ n. n.budget ≡ budget_at timing n.point) from.2 refl);
}

-- Each agent of a text has its graph, or passes the nodes that one may have.
pub explored : ComesAgain → ComesLate → (timing : Timing) → IsTimed timing → ((graph : Graph) × IsGraphOf timing graph × (length graph.nodes ≤ NODES)) ⊎ PassesNodes timing
explored again late timing timed = elim (all_places again timing timed) [
  | inl found ↦ inl (drawn timing found.0, graph_is again late timing timed found.0 found.1, omega (arith, found.2, length-map found.0 (node_of timing)))
  | inr many ↦ inr many
]

-- More edges than a graph may have
pub passes_edges : ComesAgain → ComesLate → (timing : Timing) → IsTimed timing → (places : List Place) → ArePlaces timing places → length places ≤ NODES → EDGES < length (first_edges timing places (length places)) → PassesEdges timing
passes_edges again late timing timed places are few many =
    (map spot_by places, first_edges timing places (length places), drawn_is again late timing timed places are, omega (arith, few, length-map places spot_by), many)

-- What the paths of a graph ask of its edges
pub edges_fit : ComesLate → (timing : Timing) → IsTimed timing → (places : List Place) → ArePlaces timing places → All (IsEdge (length (drawn timing places).nodes)) (drawn timing places).edges
edges_fit late timing timed places are =
    let nodes : length (map (node_of timing) places) ≡ length places = length-map places (node_of timing) in
    let edges = first_edges timing places (length places) in
    All-weaker (Contains edges) (IsEdge (length (map (node_of timing) places))) (λ e c. (
    let made = edge_in timing places (length places) e c in
    let from = made.0 in let to = made.2.0 in
    let p = place_of places from in
    let met : IsMetAt timing p = All-contains (IsMetAt timing) places p are.met (place_contained places from made.1) in
    let h : p.point < length timing.points = may_point timing timed p.point met.0 met.1 in
    let w = timed.within p.point to made.2.1 in
    let there = next_contained timing places are from to made.1 made.2.1 in
    let number = (number_is places (place_at timing to (end_date timing p.phase to)) are.rise there).0 in
    let due : p.phase < deadline timing p.point p.phase = deadline_late late timing timed p.point p.phase h in
    let least : deadline timing p.point p.phase ≤ end_date timing p.phase to = deadline_first timing p.point p.phase to made.2.1 in
    let budget = timed.budgets p.point (record { count = 1; clock = 0; budget = 0 }) h in
    let fits : IsEdge (length (map (node_of timing) places)) (edge_to timing places from to) = record {
      from = omega (arith, made.1, nodes);
      to = omega (arith, number, nodes);
      after = omega (arith, due);
      due = omega (arith, due, least);
      weight = budget;
    } in
    subst (IsEdge (length (map (node_of timing) places))) made.2.2 fits)) edges (All-contains_itself edges)
