-- The agents of a unit all have graphs within the limits, or one of them is the first that has none.
use Rattle.std.proofs.Common.{◌≡◌, ℕ, zero, suc, ◌<◌, ◌≤◌, ◌⊎◌, inl, inr, List, [], length, map, sym, ap, subst, ◌∙◌, eq-or-lt_of_le, arith}
use Rattle.std.proofs.lemmas.Bool.{cases_lt}
use Rattle.std.proofs.lemmas.List.{ext_get_or, length-map}
use Rattle.std.proofs.lemmas.Option.{slice_get_within, slice_get-get_or}
use Rattle.psy_base.specs.declared.limits.TheConstants.{NODES, EDGES}
use Rattle.psy_lists.proofs.lemmas.Places.{there, listed}
use Rattle.psy_tree.specs.declared.unit.Unit.{Unit as Whole}
use Rattle.psy_meaning.specs.Graph.{PassesNodes, PassesEdges}
use Rattle.psy_meaning.specs.Timing.{Timing}
use Rattle.psy_graph.specs.declared.fault.GraphFault.{GraphFault}
use Rattle.psy_graph.specs.declared.fault.GraphFault.TheVariants.{Nodes, Edges, Memory}
use Rattle.psy_graph.specs.declared.graph.Graph.{Graph}
use Rattle.psy_graph.specs.Graphs.{spot_of, IsGraphOf, IsSmall, IsTimed, IsTimingOf, HasGraph, AreGraphs, HaveGraphsBefore, IsCause}
use Rattle.psy_graph.proofs.Explored.{explored}
use Rattle.psy_graph.proofs.Links.{ComesLate}
use Rattle.psy_graph.proofs.Phases.{ComesAgain}
use Rattle.psy_graph.proofs.lemmas.Unique.{same_timing, one_has, small_passes_no_nodes, small_passes_no_edges, one_passed}

abbrev no_graph : Graph
no_graph = record { nodes = []; edges = [] }

-- ---- one list of graphs

pub same_graphs : (unit : Whole) (graphs others : List Graph) → AreGraphs unit graphs → AreGraphs unit others → graphs ≡ others
same_graphs unit graphs others a b = ext_get_or no_graph graphs others (a.count ∙ sym b.count) (λ number less.
    let here = slice_get-get_or graphs number no_graph less in
    let there = slice_get-get_or others number no_graph (omega (arith, less, a.count, b.count)) in
    one_has unit number _ _ (a.each number _ here) (b.each number _ there))

-- ---- one cause

-- What is at fault with an agent whose graph passes a limit
passes_nothing : (unit : Whole) (number : ℕ) (graph : Graph) (timing : Timing) → HasGraph unit number graph → IsTimingOf unit number timing → PassesNodes timing ⊎ PassesEdges timing → ⊥
passes_nothing unit number graph timing (own, its, drawn, small) also (inl passes) =
    small_passes_no_nodes own graph drawn small (subst PassesNodes (same_timing unit number timing own also its) passes)
passes_nothing unit number graph timing (own, its, drawn, small) also (inr passes) =
    small_passes_no_edges own graph drawn small (subst PassesEdges (same_timing unit number timing own also its) passes)

-- The agent of this number is the first that is at fault.
abbrev IsFirst : Whole → ℕ → Type 0
IsFirst unit number = HaveGraphsBefore unit number × (timing : Timing) × IsTimingOf unit number timing × (PassesNodes timing ⊎ PassesEdges timing)

has_agent : (unit : Whole) (number : ℕ) → IsFirst unit number → number < length unit.agents
has_agent unit number (before, timing, (agent, nexts, got, are, is), passes) = slice_get_within unit.agents number agent got

not_before : (unit : Whole) (number other : ℕ) → IsFirst unit number → IsFirst unit other → number < other → ⊥
not_before unit number other (before, timing, its, passes) (before_other, timing_other, its_other, passes_other) less =
    let (graph, has) = before_other number less in
    passes_nothing unit number graph timing has its passes

one_first : (unit : Whole) (number other : ℕ) → IsFirst unit number → IsFirst unit other → number ≡ other
one_first unit number other a b = grind (arith, not_before unit number other a b, not_before unit other number b a)

not_both : (unit : Whole) (number other : ℕ) → IsCause unit (Nodes number) → IsCause unit (Edges other) → ⊥
not_both unit number other (before, timing, its, passes) (before_other, timing_other, its_other, passes_other) =
    let same = one_first unit number other (before, timing, its, inl passes) (before_other, timing_other, its_other, inr passes_other) in
    let also = subst (λ n. IsTimingOf unit n timing) same its in
    one_passed timing_other (subst PassesNodes (same_timing unit other timing timing_other also its_other) passes) passes_other

pub same_cause : (unit : Whole) (fault other : GraphFault) → IsCause unit fault → IsCause unit other → fault ≡ other
same_cause unit (Nodes m) (Nodes n) (before, timing, its, passes) (before_other, timing_other, its_other, passes_other) =
    ap Nodes (one_first unit m n (before, timing, its, inl passes) (before_other, timing_other, its_other, inl passes_other))
same_cause unit (Edges m) (Edges n) (before, timing, its, passes) (before_other, timing_other, its_other, passes_other) =
    ap Edges (one_first unit m n (before, timing, its, inr passes) (before_other, timing_other, its_other, inr passes_other))
same_cause unit (Nodes m) (Edges n) a b = absurd (not_both unit m n a b)
same_cause unit (Edges m) (Nodes n) a b = absurd (not_both unit n m b a)
same_cause unit Memory other a b = absurd a
same_cause unit (Nodes m) Memory a b = absurd b
same_cause unit (Edges m) Memory a b = absurd b

-- ---- graphs or a cause, not both

first_apart : (unit : Whole) (graphs : List Graph) (number : ℕ) → AreGraphs unit graphs → IsFirst unit number → ⊥
first_apart unit graphs number are first =
    let less : number < length graphs = omega (arith, has_agent unit number first, are.count) in
    let has = are.each number _ (slice_get-get_or graphs number no_graph less) in
    let (before, timing, its, passes) = first in
    passes_nothing unit number _ timing has its passes

pub graphs_apart : (unit : Whole) (graphs : List Graph) (fault : GraphFault) → AreGraphs unit graphs → IsCause unit fault → ⊥
graphs_apart unit graphs (Nodes number) are (before, timing, its, passes) = first_apart unit graphs number are (before, timing, its, inl passes)
graphs_apart unit graphs (Edges number) are (before, timing, its, passes) = first_apart unit graphs number are (before, timing, its, inr passes)
graphs_apart unit graphs Memory are cause = absurd cause

-- ---- graphs or a cause, at least one

-- A graph with no more nodes than it may have keeps the limit of edges or passes it.
small_or_edges : (timing : Timing) (graph : Graph) → IsGraphOf timing graph → length graph.nodes ≤ NODES → IsSmall graph ⊎ PassesEdges timing
small_or_edges timing graph its few = elim (cases_lt EDGES (length graph.edges)) [
  | inl many ↦ let small : length (map spot_of graph.nodes) ≤ NODES = omega (arith, few, length-map graph.nodes spot_of) in inr (map spot_of graph.nodes, graph.edges, its.drawn, small, many)
  | inr fit ↦ inl (few, fit)
]

module _ (unit : Whole) where
  -- The agent has a graph within the limits, or passes one.
  abbrev Told : ℕ → Type 0
  Told number = ((graph : Graph) × HasGraph unit number graph) ⊎ ((timing : Timing) × IsTimingOf unit number timing × (PassesNodes timing ⊎ PassesEdges timing))

  told_small : (number : ℕ) (timing : Timing) (graph : Graph) → IsTimingOf unit number timing → IsGraphOf timing graph → IsSmall graph ⊎ PassesEdges timing → Told number
  told_small number timing graph its drawn (inl small) = inl (graph, (timing, its, drawn, small))
  told_small number timing graph its drawn (inr passes) = inr (timing, its, inr passes)

  told : (number : ℕ) (timing : Timing) → IsTimingOf unit number timing → ((graph : Graph) × IsGraphOf timing graph × (length graph.nodes ≤ NODES)) ⊎ PassesNodes timing → Told number
  told number timing its (inl (graph, drawn, few)) = told_small number timing graph its drawn (small_or_edges timing graph drawn few)
  told number timing its (inr passes) = inr (timing, its, inl passes)

  cause_of : (number : ℕ) (timing : Timing) → HaveGraphsBefore unit number → IsTimingOf unit number timing → PassesNodes timing ⊎ PassesEdges timing → (fault : GraphFault) × IsCause unit fault
  cause_of number timing before its (inl passes) = (Nodes number, (before, timing, its, passes))
  cause_of number timing before its (inr passes) = (Edges number, (before, timing, its, passes))

  one_more : (number : ℕ) (graph : Graph) → HaveGraphsBefore unit number → HasGraph unit number graph → HaveGraphsBefore unit (suc number)
  one_more number graph before has k less = elim (eq-or-lt_of_le {n = k} {m = number} (omega (arith, less))) [
    | inl is ↦ (graph, subst (λ n. HasGraph unit n graph) (sym is) has)
    | inr under ↦ before k under
  ]

  next_told : (number : ℕ) → HaveGraphsBefore unit number → Told number → HaveGraphsBefore unit (suc number) ⊎ ((fault : GraphFault) × IsCause unit fault)
  next_told number before (inl (graph, has)) = inl (one_more number graph before has)
  next_told number before (inr (timing, its, passes)) = inr (cause_of number timing before its passes)

  before_or_cause : ((number : ℕ) → number < length unit.agents → Told number) → (number : ℕ) → number ≤ length unit.agents → HaveGraphsBefore unit number ⊎ ((fault : GraphFault) × IsCause unit fault)
  before_or_cause each zero few = inl (λ k less. absurd (omega (arith, less)))
  before_or_cause each (suc number) few = elim (before_or_cause each number (omega (arith, few))) [
    | inl before ↦ next_told number before (each number (omega (arith, few)))
    | inr cause ↦ inr cause
  ]

  graphs_listed : HaveGraphsBefore unit (length unit.agents) → (graphs : List Graph) × AreGraphs unit graphs
  graphs_listed before = let (graphs, count, each) = listed (HasGraph unit) (length unit.agents) before in (graphs, record { count = count; each = each })

  pub graphs_or_cause : ComesAgain → ComesLate → ((number : ℕ) → number < length unit.agents → (timing : Timing) × IsTimingOf unit number timing × IsTimed timing) → ((graphs : List Graph) × AreGraphs unit graphs) ⊎ ((fault : GraphFault) × IsCause unit fault)
  graphs_or_cause again late each =
      let known = λ (number : ℕ) (less : number < length unit.agents). (let (timing, its, timed) = each number less in told number timing its (explored again late timing timed)) in
      elim (before_or_cause known (length unit.agents) (omega arith)) [
        | inl before ↦ inl (graphs_listed before)
        | inr cause ↦ inr cause
      ]
