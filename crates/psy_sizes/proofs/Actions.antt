-- The nodes of an agent's graph stand for its actions.
use Rattle.std.proofs.Common.{◌≡◌, ℕ, ◌+◌, ◌-◌, ◌%◌, ◌<◌, ◌≤◌, ◌↔◌, List, length, get_or, refl, sym, ap, subst, ◌∙◌, arith}
use Rattle.std.specs.List.{All, Contains}
use Rattle.std.proofs.Math.Nat.{mod-lt}
use Rattle.std.proofs.lemmas.Nat.Gcd.{dvd_antisymm}
use Rattle.std.proofs.lemmas.List.Elements.{Contains-get_or}
use Rattle.psy_graph.proofs.lemmas.MayStarts.{may_point}
use Rattle.psy_lists.proofs.lemmas.Members.{contains_map, map_contains}
use Rattle.psy_clock.specs.declared.clock.Clock.{Clock}
use Rattle.psy_tree.specs.declared.unit.Unit.{Unit as Whole}
use Rattle.psy_meaning.specs.Graph.{IsCycle, spot_at}
use Rattle.psy_meaning.specs.KnownWays.{Looks, Ways}
use Rattle.psy_meaning.specs.RingSizes.{IsDueIn, agent_timing, dates_between}
use Rattle.psy_meaning.specs.Timing.{Timing, MayStart, deadline}
use Rattle.psy_graph.specs.declared.graph.Graph.{Graph}
use Rattle.psy_graph.specs.declared.graph.Node.{Node}
use Rattle.psy_graph.specs.Graphs.{IsGraphOf, IsTimed, spot_of}
use Rattle.psy_sizes.specs.Passing.{HasDatesAt, HasDatesOf}

-- ---- lists

-- ---- nodes

module _ (timing : Timing) (graph : Graph) (drawn : IsGraphOf timing graph) where
  abbrev pub cycle : ℕ
  cycle = drawn.drawn.cycle

  met : (node : Node) → Contains graph.nodes node → (start : ℕ) × MayStart timing node.point start × (node.phase ≡ start % cycle)
  met node c = (drawn.drawn.nodes.all (spot_of node)).0 (contains_map spot_of graph.nodes node c)

  pub nodes_within : IsTimed timing → All (λ node. node.point < length timing.points) graph.nodes
  nodes_within timed k d l =
      let node = get_or graph.nodes k d in
      let (start, may, phase) = met node (Contains-get_or graph.nodes k d l) in
      may_point timing timed node.point start may

  pub phases_within : 1 ≤ cycle → All (λ node. node.phase < cycle) graph.nodes
  phases_within some k d l =
      let node = get_or graph.nodes k d in
      let (start, may, phase) = met node (Contains-get_or graph.nodes k d l) in
      omega (arith, phase, mod-lt start some)

module _ (unit : Whole) (ways : Ways) (nexts : List (List (List ℕ))) (number : ℕ) (graph : Graph) (drawn : IsGraphOf (agent_timing unit nexts number) graph) (variable : ℕ) (clock : Clock) where
  abbrev timing : Timing
  timing = agent_timing unit nexts number

  abbrev own : ℕ
  own = drawn.drawn.cycle

  of_node : (n : ℕ) → HasDatesAt ways number variable clock own graph.nodes n → HasDatesOf unit ways nexts variable clock number n
  of_node n (node, c, looks, (date, at, is)) =
      let (start, may, phase) = met timing graph drawn node c in
      let due = drawn.dues own drawn.drawn.is_cycle node start c may (sym phase) in
      (node.point, date, node.due, looks, (own, start, drawn.drawn.is_cycle, may, at ∙ phase, due), is)

  same_cycle : (other : ℕ) → IsCycle timing other → other ≡ own
  same_cycle other is = dvd_antisymm (is.least own drawn.drawn.is_cycle.common) (drawn.drawn.is_cycle.least other is.common)

  by_node : (n point date due : ℕ) → Looks ways number point variable → IsDueIn timing point date due → n ≡ dates_between clock date (date + due - 1) → HasDatesAt ways number variable clock own graph.nodes n
  by_node n point date due looks (other, start, is_cycle, may, at, sum) is =
      let (node, c, same) = map_contains spot_of graph.nodes (spot_at own point start) ((drawn.drawn.nodes.all (spot_at own point start)).1 (start, may, refl)) in
      let points : node.point ≡ point = ap (λ s. s.point) same in
      let phase : node.phase ≡ start % own = ap (λ s. s.phase) same in
      let also = drawn.dues own drawn.drawn.is_cycle node start c (subst (λ p. MayStart timing p start) (sym points) may) (sym phase) in
      let ends : deadline timing node.point start ≡ deadline timing point start = ap (λ p. deadline timing p start) points in
      let dues : due ≡ node.due = omega (arith, sum, also, ends) in (
        node,
        c,
        subst (λ p. Looks ways number p variable) (sym points) looks,
        (date, subst (λ m. date % m ≡ start % m) (same_cycle other is_cycle) at ∙ sym phase, is ∙ ap (λ d. dates_between clock date (date + d - 1)) dues),
      )

  pub nodes_tell : (n : ℕ) → HasDatesAt ways number variable clock own graph.nodes n ↔ HasDatesOf unit ways nexts variable clock number n
  nodes_tell n = (of_node n, λ (point, date, due, looks, is_due, is). by_node n point date due looks is_due is)
