-- A stream has one number of dates for which a message may be held, where its receiver has a graph.
use Rattle.std.proofs.Common.{◌≡◌, ◌⊎◌, ℕ, zero, suc, ◌+◌, ◌-◌, List, [], ◌∷◌, Some, map, refl, sym, ap, subst, ◌∙◌, inl, inr, arith}
use Rattle.std.specs.Prelude.{slice_get}
use Rattle.std.specs.List.{Contains}
use Rattle.std.proofs.lemmas.Bool.{cases_lt}
use Rattle.std.proofs.lemmas.Option.{slice_get-get_or}
use Rattle.psy_base.specs.declared.edge.Edge.{Edge}
use Rattle.psy_lists.proofs.lemmas.Members.{map_contains}
use Rattle.psy_tree.specs.declared.unit.Unit.{Unit as Whole}
use Rattle.psy_base.specs.Extremes.{IsGreatest}
use Rattle.psy_meaning.specs.Graph.{Spot, IsEdgeOf, spot_at}
use Rattle.psy_meaning.specs.KnownWays.{Ways, delay_by}
use Rattle.psy_meaning.specs.QueueSizes.{IsWindow, MayLast, lasting_of}
use Rattle.psy_tree.specs.Parts.{stream_at}
use Rattle.psy_meaning.specs.RingSizes.{agent_timing}
use Rattle.psy_meaning.specs.Timing.{Timing, MayStart, later, budget_at, deadline, end_date, first_date, following}
use Rattle.psy_graph.specs.declared.graph.Graph.{Graph}
use Rattle.psy_graph.specs.Graphs.{IsGraphOf, spot_of}

-- ---- one

-- There is one greatest number.
pub same_greatest : (Has : ℕ → Type 0) (n m : ℕ) → IsGreatest Has n → IsGreatest Has m → n ≡ m
same_greatest Has n m a b = let up = b.most n a.one in let down = a.most m b.one in omega (arith, up, down)

-- And one number of dates
pub same_window : (unit : Whole) (ways : Ways) (nexts : List (List (List ℕ))) (stream n m : ℕ) → IsWindow unit ways nexts stream n → IsWindow unit ways nexts stream m → n ≡ m
same_window unit ways nexts stream n m (longest, is, sum) (other, also, sum_also) =
    let same = same_greatest (MayLast (agent_timing unit nexts (stream_at unit stream).receiver)) longest other is also in
    sum ∙ ap (λ l. delay_by ways stream + lasting_of unit stream + l - 1) same ∙ sym sum_also

-- ---- the longest of some edges

-- The length of an edge, or another one
abbrev HasLength : ℕ → List Edge → ℕ → Type 0
HasLength other edges ticks = (ticks ≡ other) ⊎ ((e : Edge) × Contains edges e × (e.len ≡ ticks))

-- With one edge in front, a length is its own or one of before.
first_or_later : (other : ℕ) (e : Edge) (edges : List Edge) (ticks : ℕ) → HasLength other (e ∷ edges) ticks → (ticks ≡ e.len) ⊎ HasLength other edges ticks
first_or_later other e edges ticks (inl is) = inr (inl is)
first_or_later other e edges ticks (inr (x, (zero, less, is), len)) = let same : e.len ≡ x.len = ap (λ y. y.len) is in inl (sym len ∙ sym same)
first_or_later other e edges ticks (inr (x, (suc k, less, is), len)) = inr (inr (x, (k, omega (arith, less), is), len))

-- And one of before stays one.
among_more : (other : ℕ) (e : Edge) (edges : List Edge) (ticks : ℕ) → HasLength other edges ticks → HasLength other (e ∷ edges) ticks
among_more other e edges ticks (inl is) = inl is
among_more other e edges ticks (inr (x, (k, less, is), len)) = inr (x, (suc k, omega (arith, less), is), len)

-- One of them is the greatest.
longest_some : (other : ℕ) (edges : List Edge) → (n : ℕ) × IsGreatest (HasLength other edges) n
longest_some other [] = (other, record { one = inl refl; most = λ m has. elim has [ inl is ↦ omega (arith, is) | inr (e, (k, less, is), len) ↦ absurd (omega (arith, less)) ] })
longest_some other (e ∷ edges) =
    let (n, is) = longest_some other edges in
    elim (cases_lt n e.len) [
      | inl more ↦ (
        e.len,
        record {
          one = inr (e, (0, omega arith, refl), refl);
          most = λ m has. elim (first_or_later other e edges m has) [ inl at ↦ omega (arith, at) | inr before ↦ (let l = is.most m before in omega (arith, l, more)) ];
        },
      )
      | inr few ↦ (
        n,
        record {
          one = among_more other e edges n is.one;
          most = λ m has. elim (first_or_later other e edges m has) [ inl at ↦ omega (arith, at, few) | inr before ↦ is.most m before ];
        },
      )
    ]

-- ---- how long an action may last

module _ (timing : Timing) (graph : Graph) (drawn : IsGraphOf timing graph) where
  abbrev spots : List Spot
  spots = map spot_of graph.nodes

  abbrev cycle : ℕ
  cycle = drawn.drawn.cycle

  -- Where an action may start there is a node.
  node_at : (point start : ℕ) → MayStart timing point start → (k : ℕ) × (slice_get spots k ≡ Some (spot_at cycle point start))
  node_at point start may =
      let (k, less, is) = (drawn.drawn.nodes.all (spot_at cycle point start)).1 (start, may, refl) in
      (k, slice_get-get_or spots k (spot_at cycle point start) less ∙ ap Some is)

  -- An action that may end is an edge.
  edge_of : (ticks point start to : ℕ) → MayStart timing point start → Contains (following timing point) to → start + ticks ≡ end_date timing start to → (e : Edge) × Contains graph.edges e × (e.len ≡ ticks)
  edge_of ticks point start to may follows sum =
      let (i, from) = node_at point start may in
      let (j, into) = node_at to (end_date timing start to) (later point start to may follows) in
      let (node, c, same) = map_contains spot_of graph.nodes (spot_at cycle point start) ((drawn.drawn.nodes.all (spot_at cycle point start)).1 (start, may, refl)) in
      let points = ap (λ (s : Spot). s.point) same in
      let phase = ap (λ (s : Spot). s.phase) same in
      let due = drawn.dues cycle drawn.drawn.is_cycle node start c (subst (λ p. MayStart timing p start) (sym points) may) (sym phase) in
      let e : Edge = record { from = i; to = j; len = ticks; due = node.due; weight = budget_at timing point } in
      let its : IsEdgeOf timing cycle spots point start to e = record {
        starts = may;
        follows = follows;
        from = from;
        into = into;
        len = sum;
        due = due ∙ ap (λ p. deadline timing p start) points;
        weight = refl;
      } in
      (e, (drawn.drawn.links.all e).1 (point, start, to, its), refl)

  -- An edge's length is that of an action,
  may_last : (ticks : ℕ) → HasLength (first_date timing) graph.edges ticks → MayLast timing ticks
  may_last ticks (inl is) = inl is
  may_last ticks (inr (e, c, len)) =
      let (point, start, to, its) = (drawn.drawn.links.all e).0 c in
      inr (point, start, to, its.starts, its.follows, ap (λ l. start + l) (sym len) ∙ its.len)

  -- and an action's that of an edge.
  has_length : (ticks : ℕ) → MayLast timing ticks → HasLength (first_date timing) graph.edges ticks
  has_length ticks (inl is) = inl is
  has_length ticks (inr (point, start, to, may, follows, sum)) = inr (edge_of ticks point start to may follows sum)

  -- So some action lasts longest, or the agent begins so late.
  pub lasting_some : (n : ℕ) × IsGreatest (MayLast timing) n
  lasting_some =
      let (n, is) = longest_some (first_date timing) graph.edges in
      (n, record { one = may_last n is.one; most = λ m may. is.most m (has_length m may) })

-- Where its receiver has a graph, a message of a stream may be held for some number of dates.
pub window_some : (unit : Whole) (ways : Ways) (nexts : List (List (List ℕ))) (stream : ℕ) (graph : Graph) → IsGraphOf (agent_timing unit nexts (stream_at unit stream).receiver) graph → (window : ℕ) × IsWindow unit ways nexts stream window
window_some unit ways nexts stream graph drawn =
    let (longest, is) = lasting_some (agent_timing unit nexts (stream_at unit stream).receiver) graph drawn in
    (delay_by ways stream + lasting_of unit stream + longest - 1, (longest, is, refl))
