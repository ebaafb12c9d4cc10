-- The most messages of an agent's actions within so many dates in a row: there is one such number, and so one sum over agents.
use Rattle.std.proofs.Common.{◌≡◌, ℕ, zero, suc, ◌+◌, ◌-◌, ◌<◌, ◌≤◌, List, map, length, get_or, refl, sym, ap, subst, ◌∙◌, arith}
use Rattle.std.specs.List.{All, Contains}
use Rattle.std.proofs.lemmas.List.{ext_get_or}
use Rattle.std.proofs.lemmas.List.Elements.{Contains-get_or}
use Rattle.std.proofs.lemmas.Option.{same_Some, slice_get-get_or, get_or_from_slice_get}
use Rattle.psy_base.specs.declared.edge.Edge.{Edge}
use Rattle.psy_base.specs.declared.limits.TheConstants.{SENDS}
use Rattle.psy_base.specs.Paths.{FitsFirstFree, IsGreatestWeight}
use Rattle.psy_lists.proofs.lemmas.Places.{listed}
use Rattle.psy_tree.specs.declared.unit.Unit.{Unit as Whole}
use Rattle.psy_meaning.specs.Graph.{Spot, IsGraph, spot_at}
use Rattle.psy_meaning.specs.KnownWays.{HasMost, Ways}
use Rattle.psy_meaning.specs.QueueSizes.{AreSendEdges, IsSendEdge, IsSpread, IsSpreadBelow}
use Rattle.psy_meaning.specs.RingSizes.{agent_timing}
use Rattle.psy_meaning.specs.Timing.{Timing, end_date}
use Rattle.psy_window.specs.declared.span.Span.{Span}
use Rattle.psy_window.specs.declared.span.Span.TheVariants.{FirstFree}
use Rattle.psy_window.specs.Windows.{IsEdge, Fits}
use Rattle.psy_graph.specs.declared.graph.Graph.{Graph}
use Rattle.psy_graph.specs.Graphs.{IsGraphOf, spot_of}

-- What stands for an edge where there is none
abbrev no_edge : Edge
no_edge = record { from = 0; to = 0; len = 0; due = 0; weight = 0 }

-- ---- sends on the edges of one agent

module _ (ways : Ways) (agent stream : ℕ) (timing : Timing) (spots : List Spot) (edges : List Edge) (g : IsGraph timing spots edges) where
  -- A graph's edges are weighted by their sends in one way,
  pub same_sent : ((from to n m : ℕ) → HasMost ways agent from to stream n → HasMost ways agent from to stream m → n ≡ m) →
      (sent others : List Edge) → AreSendEdges ways agent stream spots edges sent → AreSendEdges ways agent stream spots edges others → sent ≡ others
  same_sent one_most sent others a b = ext_get_or no_edge sent others (a.count ∙ sym b.count) (λ place less.
      let inside : place < length edges = omega (arith, less, a.count) in
      let e = get_or edges place no_edge in
      let f = get_or sent place no_edge in
      let h = get_or others place no_edge in
      let at = slice_get-get_or edges place no_edge inside in
      let one = a.each place e f at (slice_get-get_or sent place no_edge less) in
      let two = b.each place e h at (slice_get-get_or others place no_edge (omega (arith, less, a.count, b.count))) in
      let (point, start, to, its) = (g.links.all e).0 (Contains-get_or edges place no_edge inside) in
      let from_spot : Spot = spot_at g.cycle point start in
      let to_spot : Spot = spot_at g.cycle to (end_date timing start to) in
      let weights : f.weight ≡ h.weight = one_most point to f.weight h.weight (one.most from_spot to_spot its.from its.into) (two.most from_spot to_spot its.from its.into) in
      one.same ∙ ap (λ w. record e { weight = w }) weights ∙ sym two.same)

  -- The edge of an action, weighted by its sends
  sent_one : ((from to n : ℕ) → HasMost ways agent from to stream n → n ≤ SENDS) → ((from to : ℕ) → (n : ℕ) × HasMost ways agent from to stream n) → (e : Edge) → Contains edges e → (f : Edge) × (IsSendEdge ways agent stream spots e f × (f.weight ≤ SENDS))
  sent_one few most_some e c =
      let (point, start, to, its) = (g.links.all e).0 c in
      let (n, is) = most_some point to in
      let f : Edge = record e { weight = n } in
      let Most : Spot → Spot → Type 0 = λ a b. HasMost ways agent a.point b.point stream n in
      let edge : IsSendEdge ways agent stream spots e f = record {
        same = refl;
        most = λ a b at_a at_b. subst (λ s. Most s b) (same_Some (spot_at g.cycle point start) a (sym its.from ∙ at_a))
            (subst (λ s. Most (spot_at g.cycle point start) s) (same_Some (spot_at g.cycle to (end_date timing start to)) b (sym its.into ∙ at_b)) is);
      } in
      (f, (edge, few point to n is))

  -- and there is one, which keeps the limit of weights.
  pub sent_some : ((from to n : ℕ) → HasMost ways agent from to stream n → n ≤ SENDS) → ((from to : ℕ) → (n : ℕ) × HasMost ways agent from to stream n) → (nodes : ℕ) → All (IsEdge nodes) edges →
      (sent : List Edge) × AreSendEdges ways agent stream spots edges sent × All (IsEdge nodes) sent
  sent_some few most_some nodes fit =
      let Has : ℕ → Edge → Type 0 = λ k f. IsSendEdge ways agent stream spots (get_or edges k no_edge) f × (f.weight ≤ SENDS) in
      let (sent, many, each) = listed Has (length edges) (λ k less. sent_one few most_some (get_or edges k no_edge) (Contains-get_or edges k no_edge less)) in (
        sent,
        record { count = many; each = λ place e f at also. subst (λ x. IsSendEdge ways agent stream spots x f) (get_or_from_slice_get edges place e no_edge at) (each place f also).0 },
        λ k d less. (
            let inside : k < length edges = omega (arith, less, many) in
            let e = get_or edges k no_edge in
            let f = get_or sent k d in
            let (edge, small) = each k f (slice_get-get_or sent k d less) in
            let its = fit k no_edge inside in
            let from : f.from ≡ e.from = ap (λ x. x.from) edge.same in
            let to : f.to ≡ e.to = ap (λ x. x.to) edge.same in
            let due : f.due ≡ e.due = ap (λ x. x.due) edge.same in
            let len : f.len ≡ e.len = ap (λ x. x.len) edge.same in
            record {
              from = omega (arith, from, its.from);
              to = omega (arith, to, its.to);
              after = omega (arith, due, its.after);
              due = omega (arith, due, len, its.due);
              weight = omega (arith, small);
            }
            ),
      )

-- ---- agents

-- A timing has at most one graph.
abbrev pub IsOneGraph : Type 0
IsOneGraph = (timing : Timing) (spots others : List Spot) (edges more : List Edge) → IsGraph timing spots edges → IsGraph timing others more → (spots ≡ others) × (edges ≡ more)

-- The paths of a graph that fit a length have at most one greatest weight.
abbrev pub IsOneWeight : Type 0
IsOneWeight = (graph : List Edge) (span : Span) (within n m : ℕ) → IsGreatestWeight graph (Fits span within) n → IsGreatestWeight graph (Fits span within) m → n ≡ m

-- And one.
abbrev pub IsSomeWeight : Type 0
IsSomeWeight = (graph : List Edge) (nodes : ℕ) (span : Span) (within : ℕ) → All (IsEdge nodes) graph → (n : ℕ) × IsGreatestWeight graph (Fits span within) n

module _ (unit : Whole) (ways : Ways) (nexts : List (List (List ℕ))) (stream window : ℕ) where
  module _ (one_graph : IsOneGraph) (one_weight : IsOneWeight) (one_most : (agent : ℕ) → agent < length unit.agents → (from to n m : ℕ) → HasMost ways agent from to stream n → HasMost ways agent from to stream m → n ≡ m) where
    -- An agent sends at most one greatest number of messages in so many dates.
    same_spread : (agent n m : ℕ) → agent < length unit.agents → IsSpread unit ways nexts stream window agent n → IsSpread unit ways nexts stream window agent m → n ≡ m
    same_spread agent n m less (spots, edges, sent, g, are, is) (others, more, sent_also, h, are_also, is_also) =
        let timing = agent_timing unit nexts agent in
        let (spots_same, edges_same) = one_graph timing spots others edges more g h in
        let are_here : AreSendEdges ways agent stream spots edges sent_also =
        subst (λ es. AreSendEdges ways agent stream spots es sent_also) (sym edges_same) (subst (λ ss. AreSendEdges ways agent stream ss more sent_also) (sym spots_same) are_also) in
        let same = same_sent ways agent stream timing spots edges g (one_most agent less) sent sent_also are are_here in
        one_weight sent FirstFree (window - 1) n m is (subst (λ es. IsGreatestWeight es (FitsFirstFree (window - 1)) m) (sym same) is_also)

    -- And the first so many agents one sum of them
    pub same_below : (agents n m : ℕ) → agents ≤ length unit.agents → IsSpreadBelow unit ways nexts stream window agents n → IsSpreadBelow unit ways nexts stream window agents m → n ≡ m
    same_below zero n m few a b = a ∙ sym b
    same_below (suc agent) n m few (others, one, below, is, sum) (others_also, one_also, below_also, is_also, sum_also) =
        let less : agent < length unit.agents = omega (arith, few) in
        omega (arith, sum, sum_also, same_below agent others others_also (omega (arith, few)) below below_also, same_spread agent one one_also less is is_also)

  module _ (some_weight : IsSomeWeight) (few : (agent : ℕ) → agent < length unit.agents → (from to n : ℕ) → HasMost ways agent from to stream n → n ≤ SENDS) (some_most : (agent : ℕ) → agent < length unit.agents → (from to : ℕ) → (n : ℕ) × HasMost ways agent from to stream n)
      (graph_of : (agent : ℕ) → agent < length unit.agents → (graph : Graph) × IsGraphOf (agent_timing unit nexts agent) graph × All (IsEdge (length graph.nodes)) graph.edges) where
    -- An agent sends some greatest number.
    spread_some : (agent : ℕ) → agent < length unit.agents → (n : ℕ) × IsSpread unit ways nexts stream window agent n
    spread_some agent less =
        let (graph, drawn, fit) = graph_of agent less in
        let spots = map spot_of graph.nodes in
        let (sent, are, edges_fit) = sent_some ways agent stream (agent_timing unit nexts agent) spots graph.edges drawn.drawn (few agent less) (some_most agent less) (length graph.nodes) fit in
        let (n, is) = some_weight sent (length graph.nodes) FirstFree (window - 1) edges_fit in
        (n, (spots, graph.edges, sent, drawn.drawn, are, is))

    -- And the first so many agents some sum of them
    pub below_some : (agents : ℕ) → agents ≤ length unit.agents → (n : ℕ) × IsSpreadBelow unit ways nexts stream window agents n
    below_some zero few = (0, refl)
    below_some (suc agent) few =
        let (others, below) = below_some agent (omega (arith, few)) in
        let (one, is) = spread_some agent (omega (arith, few)) in
        (others + one, (others, one, below, is, refl))
