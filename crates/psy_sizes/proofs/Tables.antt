-- The graph of an agent as the definitions of queues see it, and the edges by which it sends.
use Rattle.std.proofs.Common.{◌≡◌, ℕ, ◌<◌, ◌≤◌, List, Some, map, length, get_or, refl, sym, ap, subst, ◌∙◌, arith}
use Rattle.std.specs.Prelude.{slice_get}
use Rattle.std.specs.List.{Contains}
use Rattle.std.proofs.lemmas.List.{get_or-map, length-map}
use Rattle.std.proofs.lemmas.Option.{get_or_from_slice_get, slice_get_within}
use Rattle.psy_base.specs.declared.edge.Edge.{Edge}
use Rattle.psy_meaning.specs.Graph.{Spot, spot_at}
use Rattle.psy_meaning.specs.KnownWays.{Ways}
use Rattle.psy_meaning.specs.QueueSizes.{AreSendEdges, IsSendEdge}
use Rattle.psy_meaning.specs.Timing.{Timing, first, first_date}
use Rattle.psy_graph.specs.declared.graph.Graph.{Graph}
use Rattle.psy_graph.specs.declared.graph.Node.{Node}
use Rattle.psy_graph.specs.Graphs.{IsGraphOf, spot_of}

within_some : {X : Type 0} (xs : List X) (x : X) → Contains xs x → 1 ≤ length xs
within_some xs x (k, less, is) = omega (arith, less)

-- It has a node, that of the first action.
pub some_node : (timing : Timing) (graph : Graph) → IsGraphOf timing graph → 1 ≤ length graph.nodes
some_node timing graph its =
    let spot = spot_at its.drawn.cycle 0 (first_date timing) in
    let some = within_some (map spot_of graph.nodes) spot ((its.drawn.nodes.all spot).1 (first_date timing, first, refl)) in
    omega (arith, some, length-map graph.nodes spot_of)

-- ---- edges weighted by sends

-- The point of a spot is that of its node.
pub point_of : (nodes : List Node) (i : ℕ) (d : Node) (s : Spot) → i < length nodes → slice_get (map spot_of nodes) i ≡ Some s → (get_or nodes i d).point ≡ s.point
point_of nodes i d s less got = ap (λ (z : Spot). z.point) (sym (get_or-map spot_of nodes i d s less) ∙ get_or_from_slice_get (map spot_of nodes) i s s got)

abbrev pub no_edge : Edge
no_edge = record { from = 0; to = 0; len = 0; due = 0; weight = 0 }

-- An edge weighted so stands for that of this number.
abbrev pub IsSentAt : Ways → ℕ → ℕ → List Node → List Edge → ℕ → Edge → Type 0
IsSentAt ways agent stream nodes edges i sent = IsSendEdge ways agent stream (map spot_of nodes) (get_or edges i no_edge) sent

pub all_sent : (ways : Ways) (agent stream : ℕ) (nodes : List Node) (edges sent : List Edge) → length sent ≡ length edges → ((i : ℕ) (d : Edge) → i < length sent → IsSentAt ways agent stream nodes edges i (get_or sent i d)) →
    AreSendEdges ways agent stream (map spot_of nodes) edges sent
all_sent ways agent stream nodes edges sent count each = record {
  count = count;
  each = λ place e f at also. (
      let less = slice_get_within sent place f also in
      subst (λ x. IsSendEdge ways agent stream (map spot_of nodes) x f) (get_or_from_slice_get edges place e no_edge at)
      (subst (λ y. IsSendEdge ways agent stream (map spot_of nodes) (get_or edges place no_edge) y) (get_or_from_slice_get sent place f f also) (each place f less))
      );
}
