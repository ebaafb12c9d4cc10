-- An agent has at most one timing, a timing at most one graph, and no graph within the limits where it passes one.
use Rattle.std.proofs.Common.{◌≡◌, ℕ, ◌<◌, ◌≤◌, ◌↔◌, inl, inr, List, length, map, get_or, sym, ap, subst, ◌∙◌, arith}
use Rattle.std.specs.List.{Contains}
use Rattle.std.proofs.lemmas.List.{ext_get_or, get_or-map, length-map}
use Rattle.std.proofs.lemmas.List.Elements.{All-contains, Contains-get_or}
use Rattle.std.proofs.lemmas.Nat.Gcd.{dvd_antisymm}
use Rattle.std.proofs.lemmas.Option.{same_Some}
use Rattle.psy_base.specs.declared.edge.Edge.{Edge}
use Rattle.psy_base.specs.declared.limits.TheConstants.{NODES, EDGES}
use Rattle.psy_flow.proofs.lemmas.OneNexts.{nexts_one}
use Rattle.psy_lists.proofs.lemmas.Ordered.{same_elements}
use Rattle.psy_tree.specs.declared.unit.Unit.{Unit as Whole}
use Rattle.psy_meaning.specs.Flow.{AreNexts}
use Rattle.psy_meaning.specs.Graph.{Spot, SpotBefore, EdgeBefore, IsCycle, IsMet, AreSpots, AreEdges, IsGraph, PassesNodes, PassesEdges}
use Rattle.psy_meaning.specs.Timing.{Timing, timing_of, deadline, budget_at, MayStart}
use Rattle.psy_graph.specs.declared.graph.Graph.{Graph}
use Rattle.psy_graph.specs.declared.graph.Node.{Node}
use Rattle.psy_graph.specs.Graphs.{spot_of, IsGraphOf, IsSmall, IsTimingOf, HasGraph}
use Rattle.psy_graph.proofs.lemmas.Fewer.{fewer}

-- ---- the orders never hold both ways

spots_strict : (a b : Spot) → SpotBefore a b → SpotBefore b a → ⊥
spots_strict a b (inl p) (inl q) = omega (arith, p, q)
spots_strict a b (inl p) (inr q) = omega (arith, p, q.0)
spots_strict a b (inr p) (inl q) = omega (arith, p.0, q)
spots_strict a b (inr p) (inr q) = omega (arith, p.1, q.1)

edges_strict : (a b : Edge) → EdgeBefore a b → EdgeBefore b a → ⊥
edges_strict a b (inl p) (inl q) = omega (arith, p, q)
edges_strict a b (inl p) (inr q) = omega (arith, p, q.0)
edges_strict a b (inr p) (inl q) = omega (arith, p.0, q)
edges_strict a b (inr p) (inr q) = omega (arith, p.1, q.1)

-- ---- spots and edges

-- Two lists whose elements are told by the same are alike in their elements.
alike : {X : Type 0} (Told : X → Type 0) (xs ys : List X) → ((x : X) → Contains xs x ↔ Told x) → ((x : X) → Contains ys x ↔ Told x) → (x : X) → Contains xs x ↔ Contains ys x
alike Told xs ys a b x = (λ c. (b x).1 ((a x).0 c), λ c. (a x).1 ((b x).0 c))

same_cycle : (timing : Timing) (m n : ℕ) → IsCycle timing m → IsCycle timing n → m ≡ n
same_cycle timing m n a b = dvd_antisymm (a.least n b.common) (b.least m a.common)

same_spots : (timing : Timing) (cycle : ℕ) (spots others : List Spot) → AreSpots timing cycle spots → AreSpots timing cycle others → spots ≡ others
same_spots timing cycle spots others a b = same_elements SpotBefore spots_strict spots others a.rise b.rise (alike (IsMet timing cycle) spots others a.all b.all)

same_edges : (timing : Timing) (cycle : ℕ) (spots : List Spot) (edges links : List Edge) → AreEdges timing cycle spots edges → AreEdges timing cycle spots links → edges ≡ links
same_edges timing cycle spots edges links a b = same_elements EdgeBefore edges_strict edges links a.rise b.rise (alike _ edges links a.all b.all)

module _ (timing : Timing) (spots others : List Spot) (edges links : List Edge) (g : IsGraph timing spots edges) (h : IsGraph timing others links) where
  nodes_there : AreSpots timing g.cycle others
  nodes_there = subst (λ cycle. AreSpots timing cycle others) (same_cycle timing h.cycle g.cycle h.is_cycle g.is_cycle) h.nodes

  pub drawn_spots : spots ≡ others
  drawn_spots = same_spots timing g.cycle spots others g.nodes nodes_there

  links_there : AreEdges timing g.cycle spots links
  links_there =
      subst (λ seen. AreEdges timing g.cycle seen links) (sym drawn_spots)
      (subst (λ cycle. AreEdges timing cycle others links) (same_cycle timing h.cycle g.cycle h.is_cycle g.is_cycle) h.links)

  pub drawn_edges : edges ≡ links
  drawn_edges = same_edges timing g.cycle spots edges links g.links links_there

-- ---- graphs

abbrev a_node : ℕ → ℕ → ℕ → ℕ → Node
a_node point phase due budget = record { point = point; phase = phase; due = due; budget = budget }

abbrev a_graph : List Node → List Edge → Graph
a_graph nodes edges = record { nodes = nodes; edges = edges }

abbrev no_node : Node
no_node = a_node 0 0 0 0

same_node : (a b : Node) → a.point ≡ b.point → a.phase ≡ b.phase → a.due ≡ b.due → a.budget ≡ b.budget → a ≡ b
same_node a b p q r s =
    ap (λ n. a_node n a.phase a.due a.budget) p ∙ ap (λ n. a_node b.point n a.due a.budget) q ∙ ap (λ n. a_node b.point b.phase n a.budget) r ∙ ap (a_node b.point b.phase b.due) s

same_graph : (g h : Graph) → g.nodes ≡ h.nodes → g.edges ≡ h.edges → g ≡ h
same_graph g h p q = ap (λ nodes. a_graph nodes g.edges) p ∙ ap (a_graph h.nodes) q

module _ (timing : Timing) (g h : Graph) (its : IsGraphOf timing g) (also : IsGraphOf timing h) where
  spots : map spot_of g.nodes ≡ map spot_of h.nodes
  spots = drawn_spots timing _ _ g.edges h.edges its.drawn also.drawn

  lengths : length g.nodes ≡ length h.nodes
  lengths = sym (length-map g.nodes spot_of) ∙ ap length spots ∙ length-map h.nodes spot_of

  -- Two nodes of the same spot
  node_alike : (a b : Node) → Contains g.nodes a → Contains h.nodes b → Contains (map spot_of g.nodes) (spot_of a) → spot_of a ≡ spot_of b → a ≡ b
  node_alike a b c d there same =
      let cycle = its.drawn.cycle in
      let (start, may, phase) = (its.drawn.nodes.all (spot_of a)).0 there in
      let point : a.point ≡ b.point = ap (λ s. s.point) same in
      let phases : a.phase ≡ b.phase = ap (λ s. s.phase) same in
      let due = its.dues cycle its.drawn.is_cycle a start c may (sym phase) in
      let also_may = subst (λ p. MayStart timing p start) point may in
      let also_due = also.dues cycle its.drawn.is_cycle b start d also_may (sym phase ∙ phases) in
      let deadlines = ap (λ p. deadline timing p start) point in
      let budgets = its.budgets a c ∙ ap (budget_at timing) point ∙ sym (also.budgets b d) in
      same_node a b point phases (omega (arith, due, also_due, deadlines)) budgets

  nodes_alike : (i : ℕ) → i < length g.nodes → get_or g.nodes i no_node ≡ get_or h.nodes i no_node
  nodes_alike i less =
      let a = get_or g.nodes i no_node in
      let b = get_or h.nodes i no_node in
      let within : i < length h.nodes = omega (arith, less, lengths) in
      let at = get_or-map spot_of g.nodes i no_node (spot_of no_node) less in
      let also_at = get_or-map spot_of h.nodes i no_node (spot_of no_node) within in
      let there = Contains-get_or (map spot_of g.nodes) i (spot_of no_node) (omega (arith, less, length-map g.nodes spot_of)) in
      node_alike a b (Contains-get_or g.nodes i no_node less) (Contains-get_or h.nodes i no_node within) (subst (Contains (map spot_of g.nodes)) at there)
      (sym at ∙ ap (λ ss. get_or ss i (spot_of no_node)) spots ∙ also_at)

  pub graphs_same : g ≡ h
  graphs_same = same_graph g h (ext_get_or no_node g.nodes h.nodes lengths nodes_alike) (drawn_edges timing _ _ g.edges h.edges its.drawn also.drawn)

-- ---- limits

pub few_spots : (timing : Timing) (spots : List Spot) (edges : List Edge) → IsGraph timing spots edges → length spots ≤ NODES → PassesNodes timing → ⊥
few_spots timing spots edges g few (cycle, is, others, rise, met, many) =
    let same = same_cycle timing cycle g.cycle is g.is_cycle in
    let all = λ (spot : Spot) (c : Contains others spot). (g.nodes.all spot).1 (subst (λ n. IsMet timing n spot) same (All-contains (IsMet timing cycle) others spot met c)) in
    let fit = fewer SpotBefore spots_strict spots others g.nodes.rise rise all in
    omega (arith, few, many, fit)

pub few_edges : (timing : Timing) (spots : List Spot) (edges : List Edge) → IsGraph timing spots edges → length edges ≤ EDGES → PassesEdges timing → ⊥
few_edges timing spots edges g few (others, links, h, small, many) =
    let same = ap length (drawn_edges timing spots others edges links g h) in
    omega (arith, few, many, same)

pub small_passes_no_nodes : (timing : Timing) (graph : Graph) → IsGraphOf timing graph → IsSmall graph → PassesNodes timing → ⊥
small_passes_no_nodes timing graph its small = few_spots timing (map spot_of graph.nodes) graph.edges its.drawn (omega (arith, small.0, length-map graph.nodes spot_of))

pub small_passes_no_edges : (timing : Timing) (graph : Graph) → IsGraphOf timing graph → IsSmall graph → PassesEdges timing → ⊥
small_passes_no_edges timing graph its small = few_edges timing (map spot_of graph.nodes) graph.edges its.drawn small.1

pub one_passed : (timing : Timing) → PassesNodes timing → PassesEdges timing → ⊥
one_passed timing nodes (spots, edges, g, small, many) = few_spots timing spots edges g small nodes

-- ---- timings

pub same_timing : (unit : Whole) (number : ℕ) (timing other : Timing) → IsTimingOf unit number timing → IsTimingOf unit number other → timing ≡ other
same_timing unit number timing other (agent, nexts, got, are, is) (agent_also, nexts_also, got_also, are_also, is_also) =
    let same : agent_also ≡ agent = same_Some agent_also agent (sym got_also ∙ got) in
    let are_too = subst (λ a. AreNexts unit.functions a nexts_also) same are_also in
    is ∙ ap (timing_of unit agent) (nexts_one unit.functions agent nexts nexts_also are are_too) ∙ ap (λ a. timing_of unit a nexts_also) (sym same) ∙ sym is_also

-- An agent has one graph.
pub one_has : (unit : Whole) (number : ℕ) (g h : Graph) → HasGraph unit number g → HasGraph unit number h → g ≡ h
one_has unit number g h (timing, its, drawn, small) (other, also, drawn_also, small_also) =
    let same = same_timing unit number other timing also its in
    graphs_same timing g h drawn (subst (λ t. IsGraphOf t h) same drawn_also)
