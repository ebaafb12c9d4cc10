-- By the ways of a program's statements too, a variable has one size of its ring, and a stream one size of its queue.
use Rattle.std.proofs.Common.{◌≡◌, ◌∙◌, ℕ, zero, suc, ◌+◌, ◌-◌, ◌<◌, ◌≤◌, min, Bool, true, false, inl, inr, List, length, get_or, sym, ap, subst, arith}
use Rattle.std.proofs.lemmas.List.{ext_get_or}
use Rattle.std.proofs.lemmas.List.Elements.{Contains-get_or}
use Rattle.std.proofs.lemmas.Option.{same_Some, slice_get-get_or}
use Rattle.psy_base.specs.declared.edge.Edge.{Edge}
use Rattle.psy_base.specs.declared.limits.TheConstants.{SENDS}
use Rattle.psy_base.specs.Extremes.{IsGreatest}
use Rattle.psy_base.specs.Paths.{FitsFirstFree, IsGreatestWeight}
use Rattle.psy_meaning.specs.Flow.{IsMostSends}
use Rattle.psy_meaning.specs.Graph.{Spot, IsGraph, spot_at}
use Rattle.psy_meaning.specs.KnownWays.{OfText, Ways, delay_by, is_sent}
use Rattle.psy_meaning.specs.QueueSizes.{AreSendEdges, IsQueueSize, IsSizeFor, IsSpread, IsSpreadBelow, IsWindow, lasting_of}
use Rattle.psy_meaning.specs.RingSizes.{IsRingSize, agent_timing}
use Rattle.psy_meaning.specs.Timing.{Timing, end_date}
use Rattle.psy_tree.specs.declared.unit.AgentDecl.{AgentDecl}
use Rattle.psy_tree.specs.declared.unit.FunctionDecl.{FunctionDecl}
use Rattle.psy_tree.specs.declared.unit.Unit.{Unit as Whole}
use Rattle.psy_tree.specs.Parts.{agent_at}

-- ---- the greatest

one_greatest : (Has : ℕ → Type 0) (n m : ℕ) → IsGreatest Has n → IsGreatest Has m → n ≡ m
one_greatest Has n m a b = omega (arith, a.most m b.one, b.most n a.one)

one_weight : (graph : List Edge) (within n m : ℕ) → IsGreatestWeight graph (FitsFirstFree within) n → IsGreatestWeight graph (FitsFirstFree within) m → n ≡ m
one_weight graph within n m a b =
    let (path, is, fits, weighs) = a.one in
    let (other, is_also, fits_also, weighs_also) = b.one in
    omega (arith, weighs, weighs_also, a.most other is_also fits_also, b.most path is fits)

-- ---- rings

most_least : (unit : Whole) (ways : Ways) (nexts : List (List (List ℕ))) (variable size other : ℕ) → (a : IsRingSize unit ways nexts variable size) → (b : IsRingSize unit ways nexts variable other) → a.most ≤ b.most
most_least unit ways nexts variable size other a b = elim a.one [
  | inl none ↦ omega (arith, none)
  | inr passes ↦ b.all a.most passes
]

pub one_ring : (unit : Whole) (ways : Ways) (nexts : List (List (List ℕ))) (variable size other : ℕ) → IsRingSize unit ways nexts variable size → IsRingSize unit ways nexts variable other → size ≡ other
one_ring unit ways nexts variable size other a b =
    let depth = ap (λ v. v.depth) (same_Some a.decl b.decl (sym a.declared ∙ b.declared)) in
    omega (arith, depth, a.sum, b.sum, most_least unit ways nexts variable size other a b, most_least unit ways nexts variable other size b a)

-- ---- sends between two points

-- Where there is a way there is a next point: so none and some don't go together.
one_most : (functions : List FunctionDecl) (agent : AgentDecl) (from to stream n m : ℕ) → IsMostSends functions agent from to stream n → IsMostSends functions agent from to stream m → n ≡ m
one_most functions agent from to stream n m (inl (none, is)) (inl (other, is_also)) = is ∙ sym is_also
one_most functions agent from to stream n m (inl (none, is)) (inr (k, greatest, cut)) = absurd (let (met, way, count) = greatest.one in none (met, way))
one_most functions agent from to stream n m (inr (k, greatest, cut)) (inl (none, is)) = absurd (let (met, way, count) = greatest.one in none (met, way))
one_most functions agent from to stream n m (inr (k, greatest, cut)) (inr (l, greatest_also, cut_also)) =
    cut ∙ ap (λ i. min i SENDS) (one_greatest _ k l greatest greatest_also) ∙ sym cut_also

-- ---- sends in a window

abbrev no_edge : Edge
no_edge = record { from = 0; to = 0; len = 0; due = 0; weight = 0 }

-- A timing has at most one graph.
abbrev pub IsOneGraph : Type 0
IsOneGraph = (timing : Timing) (spots others : List Spot) (edges more : List Edge) → IsGraph timing spots edges → IsGraph timing others more → (spots ≡ others) × (edges ≡ more)

module _ (unit : Whole) (nexts : List (List (List ℕ))) (one_graph : IsOneGraph) (stream : ℕ) where
  abbrev ways : Ways
  ways = OfText unit

  same_sent : (agent : ℕ) (timing : Timing) (spots : List Spot) (edges : List Edge) → IsGraph timing spots edges → (sent others : List Edge)
      → AreSendEdges ways agent stream spots edges sent → AreSendEdges ways agent stream spots edges others → sent ≡ others
  same_sent agent timing spots edges g sent others a b = ext_get_or no_edge sent others (a.count ∙ sym b.count) (λ place less.
      let inside : place < length edges = omega (arith, less, a.count) in
      let e = get_or edges place no_edge in
      let f = get_or sent place no_edge in
      let h = get_or others place no_edge in
      let at = slice_get-get_or edges place no_edge inside in
      let one = a.each place e f at (slice_get-get_or sent place no_edge less) in
      let two = b.each place e h at (slice_get-get_or others place no_edge (omega (arith, less, a.count, b.count))) in
      let (point, start, to, its) = (g.links.all e).0 (Contains-get_or edges place no_edge inside) in
      let from_spot : Spot = spot_at g.cycle point start in
      let to_spot : Spot = spot_at g.cycle to (end_date timing start to) in
      let weights : f.weight ≡ h.weight = one_most unit.functions (agent_at unit agent) point to stream f.weight h.weight (one.most from_spot to_spot its.from its.into) (two.most from_spot to_spot its.from its.into) in
      one.same ∙ ap (λ w. record e { weight = w }) weights ∙ sym two.same)

  same_spread : (window agent n m : ℕ) → IsSpread unit ways nexts stream window agent n → IsSpread unit ways nexts stream window agent m → n ≡ m
  same_spread window agent n m (spots, edges, sent, g, are, is) (others, more, sent_also, h, are_also, is_also) =
      let timing = agent_timing unit nexts agent in
      let (spots_same, edges_same) = one_graph timing spots others edges more g h in
      let are_here : AreSendEdges ways agent stream spots edges sent_also =
      subst (λ es. AreSendEdges ways agent stream spots es sent_also) (sym edges_same) (subst (λ ss. AreSendEdges ways agent stream ss more sent_also) (sym spots_same) are_also) in
      let same = same_sent agent timing spots edges g sent sent_also are are_here in
      one_weight sent (window - 1) n m is (subst (λ es. IsGreatestWeight es (FitsFirstFree (window - 1)) m) (sym same) is_also)

  same_below : (window agents n m : ℕ) → IsSpreadBelow unit ways nexts stream window agents n → IsSpreadBelow unit ways nexts stream window agents m → n ≡ m
  same_below window zero n m a b = a ∙ sym b
  same_below window (suc agent) n m (others, one, below, is, sum) (others_also, one_also, below_also, is_also, sum_also) =
      omega (arith, sum, sum_also, same_below window agent others others_also below below_also, same_spread window agent one one_also is is_also)

  same_window : (window other : ℕ) → IsWindow unit ways nexts stream window → IsWindow unit ways nexts stream other → window ≡ other
  same_window window other (longest, a, is) (also, b, is_also) =
      is ∙ ap (λ l. delay_by ways stream + lasting_of unit stream + l - 1) (one_greatest _ longest also a b) ∙ sym is_also

  same_for : (n m : ℕ) (b : Bool) → IsSizeFor unit ways nexts stream n b → IsSizeFor unit ways nexts stream m b → n ≡ m
  same_for n m false a b = a ∙ sym b
  same_for n m true (window, is, below) (other, also, below_also) =
      same_below window (length unit.agents) n m below
      (subst (λ w. IsSpreadBelow unit ways nexts stream w (length unit.agents) m) (sym (same_window window other is also)) below_also)

  pub one_queue : (n m : ℕ) → IsQueueSize unit ways nexts stream n → IsQueueSize unit ways nexts stream m → n ≡ m
  one_queue n m = same_for n m (is_sent ways stream)
