-- An agent without a send to a stream sends nothing to it on any way, so its spread is nothing.
use Rattle.std.proofs.Common.{◌≡◌, ℕ, suc, ◌-◌, ◌==◌, ◌&&◌, Bool, true, false, List, [], ◌∷◌, map, length, get_or, Some, refl, sym, ap, subst, ◌∙◌, inl, inr, arith}
use Rattle.std.specs.Prelude.{if◌then◌else◌, slice_get}
use Rattle.std.specs.List.{Contains, list_any}
use Rattle.std.proofs.lemmas.Bool.{cases_Bool, cases_lt, false≢true}
use Rattle.std.proofs.lemmas.List.{get_or-map, get_or_past, length-map}
use Rattle.std.proofs.lemmas.List.Folds.{list_any_at}
use Rattle.std.proofs.lemmas.Option.{get_or_from_slice_get, slice_get_within}
use Rattle.psy_base.specs.declared.edge.Edge.{Edge}
use Rattle.psy_base.specs.declared.ways.SendWay.{SendWay}
use Rattle.psy_base.specs.declared.ways.Ways.{Ways as WayLists}
use Rattle.psy_base.specs.Paths.{IsPathFrom, IsGreatestWeight, FitsFirstFree, weight_of}
use Rattle.psy_lists.proofs.lemmas.Members.{map_contains}
use Rattle.psy_tree.specs.declared.unit.Unit.{Unit as Whole}
use Rattle.psy_meaning.specs.Graph.{Spot}
use Rattle.psy_meaning.specs.KnownWays.{HasMost, Listed, Ways, is_sent, most_in, sends_to}
use Rattle.psy_meaning.specs.QueueSizes.{AreSendEdges, IsSendEdge, IsSpread}
use Rattle.psy_meaning.specs.RingSizes.{agent_timing}
use Rattle.psy_graph.specs.declared.graph.Graph.{Graph}
use Rattle.psy_graph.specs.Graphs.{IsGraphOf, spot_of}

-- ---- lists without a send to the stream

-- Where none passes, each fails.
each_fails : {X : Type 0} (p : X → Bool) (xs : List X) (x : X) → list_any p xs ≡ false → Contains xs x → p x ≡ false
each_fails p xs x none (k, less, is) = elim (cases_Bool (p x)) [
  | inl passes ↦ absurd (false≢true (sym none ∙ list_any_at p xs k x less (ap p is ∙ passes)))
  | inr fails ↦ fails
]

and_false : (a : Bool) → (a && false) ≡ false
and_false true = refl
and_false false = refl

nothing_in : (list : List SendWay) (to stream : ℕ) → ((way : SendWay) → Contains list way → (way.stream == stream) ≡ false) → most_in list to stream ≡ 0
nothing_in [] to stream fails = refl
nothing_in (w ∷ ws) to stream fails =
    let test : (w.to == to && w.stream == stream) ≡ false = ap (λ b. w.to == to && b) (fails w (0, omega arith, refl)) ∙ and_false (w.to == to) in
    ap (λ (b : Bool). if b then w.most else most_in ws to stream) test ∙ nothing_in ws to stream (λ way (k, less, is). fails way (suc k, omega (arith, less), is))

-- One of some lists, or the list of no number
one_fails : {X : Type 0} (p : X → Bool) (lists : List (List X)) (k : ℕ) → list_any (list_any p) lists ≡ false → list_any p (get_or lists k []) ≡ false
one_fails p lists k none = elim (cases_lt k (length lists)) [
  | inl inside ↦ elim (cases_Bool (list_any p (get_or lists k []))) [
    | inl passes ↦ absurd (false≢true (sym none ∙ list_any_at (list_any p) lists k [] inside passes))
    | inr fails ↦ fails
  ]
  | inr past ↦ ap (list_any p) (get_or_past lists k [] past)
]

-- An agent that doesn't send to a stream has no way with a send to it.
pub unsent : (lists : WayLists) (agent stream from to : ℕ) → sends_to (Listed lists) agent stream ≡ false → HasMost (Listed lists) agent from to stream 0
unsent lists agent stream from to none =
    let own = get_or (get_or lists.sends agent []) from [] in
    let test : SendWay → Bool = λ way. way.stream == stream in
    let fails : list_any test own ≡ false = one_fails test (get_or lists.sends agent []) from none in
    nothing_in own to stream (λ way c. each_fails test own way fails c)

-- Where nobody sends to a stream, no agent does.
pub nobody : (lists : WayLists) (agent stream : ℕ) → is_sent (Listed lists) stream ≡ false → sends_to (Listed lists) agent stream ≡ false
nobody lists agent stream none = one_fails (list_any (λ (way : SendWay). way.stream == stream)) lists.sends agent none

-- ---- weights

weightless : (edges : List Edge) → ((e : Edge) → Contains edges e → e.weight ≡ 0) → (path : List Edge) (node : ℕ) → IsPathFrom edges node path → weight_of path ≡ 0
weightless edges none [] node is = refl
weightless edges none (e ∷ path) node (there, from, on) = omega (arith, none e there, weightless edges none path e.to on)

pub no_weight : (edges : List Edge) (length : ℕ) → ((e : Edge) → Contains edges e → e.weight ≡ 0) → IsGreatestWeight edges (FitsFirstFree length) 0
no_weight edges length none = record {
  one = ([], (0, tt), tt, refl);
  most = λ path (node, is) fits. omega (arith, weightless edges none path node is);
}

-- The edge, sending nothing
abbrev silent : Edge → Edge
silent e = record e { weight = 0 }

silent_weight : (edges : List Edge) (e : Edge) → Contains (map silent edges) e → e.weight ≡ 0
silent_weight edges e c = let (x, there, same) = map_contains silent edges e c in ap (λ (z : Edge). z.weight) (sym same)

silent_at : (edges : List Edge) (place : ℕ) (e f : Edge) → slice_get edges place ≡ Some e → slice_get (map silent edges) place ≡ Some f → silent e ≡ f
silent_at edges place e f at also =
    ap silent (sym (get_or_from_slice_get edges place e e at))
    ∙ sym (get_or-map silent edges place e f (slice_get_within edges place e at))
    ∙ get_or_from_slice_get (map silent edges) place f f also

-- ---- spreads

module _ (unit : Whole) (ways : Ways) (nexts : List (List (List ℕ))) (agent stream : ℕ) (none : (from to : ℕ) → HasMost ways agent from to stream 0) where
  silent_edges : (spots : List Spot) (edges : List Edge) → AreSendEdges ways agent stream spots edges (map silent edges)
  silent_edges spots edges = record {
    count = length-map edges silent;
    each = λ place e f at also. subst (IsSendEdge ways agent stream spots e) (silent_at edges place e f at also) (record { same = refl; most = λ from to a b. none from.point to.point });
  }

  pub no_spread : (window : ℕ) (graph : Graph) → IsGraphOf (agent_timing unit nexts agent) graph → IsSpread unit ways nexts stream window agent 0
  no_spread window graph drawn = (
    map spot_of graph.nodes,
    graph.edges,
    map silent graph.edges,
    drawn.drawn,
    silent_edges (map spot_of graph.nodes) graph.edges,
    no_weight (map silent graph.edges) (window - 1) (silent_weight graph.edges),
  )
