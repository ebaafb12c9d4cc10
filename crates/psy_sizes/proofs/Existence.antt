-- There is a most of the dates that may pass: by a node, by an agent, by all agents of a unit; so each ring has a size.
use Rattle.std.proofs.Common.{ℕ, zero, suc, ◌+◌, ◌-◌, ◌*◌, ◌/◌, ◌<◌, ◌≤◌, List, [], ◌∷◌, map, max, take, drop, length, get_or, refl, subst, inl, inr, add-one, arith}
use Rattle.std.specs.Int.{◌∣◌}
use Rattle.std.specs.List.{All}
use Rattle.std.proofs.Math.Nat.{dvd-mul_left_of_dvd, dvd-mul_right, pos_of_dvd_of_pos, mul-pos}
use Rattle.std.proofs.lemmas.Bool.{cases_lt}
use Rattle.std.proofs.lemmas.List.{take_all}
use Rattle.std.proofs.lemmas.List.Elements.{All-nil, All-cons, All-tail, All-drop, All-get_or, All-map}
use Rattle.psy_clock.specs.declared.clock.Clock.{Clock}
use Rattle.psy_clock.specs.Dates.{IsClock}
use Rattle.psy_tree.specs.declared.unit.Unit.{Unit as Whole}
use Rattle.psy_base.specs.Extremes.{IsGreatest, IsMost}
use Rattle.psy_meaning.specs.Graph.{IsCycle, IsLeastCommonMultiple}
use Rattle.psy_meaning.specs.KnownWays.{Ways}
use Rattle.psy_meaning.specs.RingSizes.{agent_timing}
use Rattle.psy_meaning.specs.Timing.{Timing}
use Rattle.psy_graph.specs.declared.graph.Node.{Node}
use Rattle.psy_graph.specs.Graphs.{IsTimed}
use Rattle.psy_sizes.specs.Passing.{HasDatesAt, HasDatesOf, HasDatesBefore}
use Rattle.psy_sizes.specs.Windows.{HasDates}
use Rattle.psy_sizes.proofs.Actions.{nodes_tell, phases_within}
use Rattle.psy_sizes.proofs.Distances.{gap, most_dates, no_dates}
use Rattle.psy_sizes.proofs.Multiples.{gcd_exists}
use Rattle.psy_sizes.proofs.Passed.{HasDatesBy, most_alike, most_max, looking_by, blind_by, no_node, node_more, no_agent, agent_more}
use Rattle.psy_sizes.proofs.Sharing.{no_clock, period_of}
use Rattle.psy_sizes.proofs.Told.{AreCounted, AreTold}

-- ---- cycles

common_some : (numbers : List ℕ) → All (λ n. 1 ≤ n) numbers → (m : ℕ) × (1 ≤ m) × All (λ n. n ∣ m) numbers
common_some [] some = (1, omega arith, All-nil (λ n. n ∣ 1))
common_some (n ∷ numbers) some =
    let (m, lo, all) = common_some numbers (All-tail (λ k. 1 ≤ k) n numbers some) in
    (n * m, mul-pos (some 0 n (omega arith)) lo, All-cons (λ k. k ∣ n * m) n numbers (dvd-mul_right n m) (λ k d l. dvd-mul_left_of_dvd _ (all k d l) n))

least_some : (numbers : List ℕ) (n : ℕ) → All (λ k. 1 ≤ k) numbers → IsLeastCommonMultiple numbers n → 1 ≤ n
least_some numbers n some is = let (m, lo, all) = common_some numbers some in pos_of_dvd_of_pos (is.least m all) lo

pub cycle_some : (timing : Timing) → IsTimed timing → (cycle : ℕ) → IsCycle timing cycle → 1 ≤ cycle
cycle_some timing timed cycle is =
    let point_some : All (λ point. 1 ≤ period_of timing.clocks point) timing.points = λ k d l. (let lawful = All-get_or IsClock timing.clocks (get_or timing.points k d).clock no_clock (timed.named k d l) timed.clocks in omega (arith, lawful.first)) in
    least_some (map (period_of timing.clocks) (drop 1 timing.points)) cycle
    (All-map (λ n. 1 ≤ n) (period_of timing.clocks) (drop 1 timing.points) (All-drop (λ point. 1 ≤ period_of timing.clocks point) 1 timing.points point_some)) is

-- ---- nodes

greatest_dates : AreCounted → (clock : Clock) → IsClock clock → (cycle phase due : ℕ) → phase < cycle → (n : ℕ) × IsGreatest (HasDates clock cycle phase due) n
greatest_dates counted clock lawful cycle phase due inner =
    let (shared, is) = gcd_exists cycle clock.period in
    let near = gap shared (phase + (clock.period - clock.first)) in
    elim (cases_lt near due) [
      | inl l ↦ ((due - 1 - near) / clock.period + 1, most_dates clock lawful (λ t i. counted clock t i lawful) cycle phase shared is inner due l)
      | inr l ↦ (0, no_dates clock lawful (λ t i. counted clock t i lawful) cycle phase shared is inner due l)
    ]

module _ (unit : Whole) (ways : Ways) (nexts : List (List (List ℕ))) (its : AreTold unit ways nexts) (variable : ℕ) (clock : Clock) (lawful : IsClock clock) where
  module _ (number : ℕ) (less : number < length unit.agents) (cycle : ℕ) where
    most_by : (node : Node) → node.phase < cycle → (n : ℕ) × IsMost (HasDatesBy ways number variable clock cycle node) n
    most_by node inner = elim (its.looks number node.point variable less) [
      | inl looks ↦ (let (n, h) = greatest_dates its.counted clock lawful cycle node.phase node.due inner in (n, looking_by ways number variable clock cycle node n looks h))
      | inr blind ↦ (0, blind_by ways number variable clock cycle node blind)
    ]

    most_at : (nodes : List Node) → All (λ node. node.phase < cycle) nodes → (k : ℕ) → k ≤ length nodes → (n : ℕ) × IsMost (HasDatesAt ways number variable clock cycle (take k nodes)) n
    most_at nodes phases zero few = (0, no_node ways number variable clock cycle)
    most_at nodes phases (suc k) few =
        let none : Node = record { point = 0; phase = 0; due = 0; budget = 0 } in
        let node = get_or nodes k none in
        let (n, before) = most_at nodes phases k (omega (arith, few)) in
        let (m, here) = most_by node (phases k none (omega (arith, few))) in
        let all = most_max (HasDatesAt ways number variable clock cycle (take k nodes)) (HasDatesBy ways number variable clock cycle node) (HasDatesAt ways number variable clock cycle (take (k + 1) nodes))
        n m (max n m) refl before here (node_more ways number variable clock cycle nodes k none (omega (arith, few))) in
        (max n m, subst (λ i. IsMost (HasDatesAt ways number variable clock cycle (take i nodes)) (max n m)) (add-one k) all)

    most_of_nodes : (nodes : List Node) → All (λ node. node.phase < cycle) nodes → (n : ℕ) × IsMost (HasDatesAt ways number variable clock cycle nodes) n
    most_of_nodes nodes phases =
        let (n, h) = most_at nodes phases (length nodes) (omega arith) in
        (n, subst (λ xs. IsMost (HasDatesAt ways number variable clock cycle xs) n) (take_all (length nodes) nodes (omega arith)) h)

  -- ---- agents

  most_of_agent : (number : ℕ) → number < length unit.agents → (n : ℕ) × IsMost (HasDatesOf unit ways nexts variable clock number) n
  most_of_agent number less =
      let (graph, drawn, fit) = its.graph_of number less in
      let timing = agent_timing unit nexts number in
      let cycle = drawn.drawn.cycle in
      let some = cycle_some timing (its.timed number less) cycle drawn.drawn.is_cycle in
      let (n, h) = most_of_nodes number less cycle graph.nodes (phases_within timing graph drawn some) in
      (n, most_alike (HasDatesAt ways number variable clock cycle graph.nodes) (HasDatesOf unit ways nexts variable clock number) n (nodes_tell unit ways nexts number graph drawn variable clock) h)

  pub most_before : (k : ℕ) → k ≤ length unit.agents → (n : ℕ) × IsMost (HasDatesBefore unit ways nexts variable clock k) n
  most_before zero few = (0, no_agent unit ways nexts variable clock)
  most_before (suc k) few =
      let (n, before) = most_before k (omega (arith, few)) in
      let (m, here) = most_of_agent k (omega (arith, few)) in
      let all = most_max (HasDatesBefore unit ways nexts variable clock k) (HasDatesOf unit ways nexts variable clock k) (HasDatesBefore unit ways nexts variable clock (k + 1)) n m (max n m) refl before here
      (agent_more unit ways nexts variable clock k) in
      (max n m, subst (λ i. IsMost (HasDatesBefore unit ways nexts variable clock i) (max n m)) (add-one k) all)
