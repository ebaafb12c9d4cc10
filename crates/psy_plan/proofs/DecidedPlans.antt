-- Each step from a program to what a run of it needs comes to one end, and so do the steps from a text to a program, and from there.
use Rattle.std.proofs.Common.{◌≡◌, ◌∙◌, sym, subst, ap, refl, ℕ, suc, ◌+◌, ◌*◌, ◌<◌, List, [], ◌∷◌, length, ◌⊎◌, inl, inr, Some, slice_get, arith}
use Rattle.std.specs.List.{All, Any}
use Rattle.std.proofs.lemmas.Option.{same_Some, slice_get_within}
use Rattle.psy_lists.proofs.lemmas.Places.{listed, same_lists, there}
use Rattle.psy_base.specs.declared.edge.Edge.{Edge}
use Rattle.psy_base.specs.declared.limits.TheConstants.{COST, WINDOW_CELLS}
use Rattle.psy_demand.specs.Criterion.{HasCells, PassesCells, edges_of}
use Rattle.psy_tree.specs.Parts.{homes}
use Rattle.psy_tree.specs.declared.unit.AgentDecl.{AgentDecl}
use Rattle.psy_tree.specs.declared.unit.Unit.{Unit as Whole}
use Rattle.psy_flow.specs.Costs.{AreCosts}
use Rattle.psy_meaning.specs.KnownWays.{OfText}
use Rattle.psy_meaning.specs.Flow.{AreAllNexts, AreNexts, IsCut, HasCost}
use Rattle.psy_meaning.specs.Timing.{Timing, timing_of}
use Rattle.psy_meaning.specs.Units.{IsOfText}
use Rattle.psy_graph.specs.declared.fault.GraphFault.{GraphFault}
use Rattle.psy_graph.specs.declared.fault.GraphFault.TheVariants as fault
use Rattle.psy_graph.specs.declared.graph.Graph.{Graph}
use Rattle.psy_graph.specs.Graphs.{AreGraphs, IsCause}
use Rattle.psy_sizes.specs.declared.fault.SizeFault.{SizeFault}
use Rattle.psy_sizes.specs.declared.fault.SizeFault.TheVariants as size
use Rattle.psy_sizes.specs.Faults.{IsFaultBy}
use Rattle.psy_rate.specs.declared.line.Rate.{Rate}
use Rattle.psy_rate.specs.Lines.{IsRateOf, AreRates, lines_by}
use Rattle.psy_plan.specs.declared.extent.Extent.{Extent}
use Rattle.psy_plan.specs.declared.extent.Extent.TheVariants.{Horizon, LastDate}
use Rattle.psy_plan.specs.declared.refusal.Refusal.{Refusal}
use Rattle.psy_plan.specs.declared.refusal.Refusal.TheVariants.{Nodes, Edges, Ring, Queue, Cells, Infeasible}
use Rattle.psy_plan.specs.Extents.{IsExtent, length_of}
use Rattle.psy_plan.specs.Courses.{IsDecided, IsOne}
use Rattle.psy_plan.specs.Programs.{translating}
use Rattle.psy_plan.specs.Steps.{graphing, IsUndrawn, IsUnsizedBy, following, sizing, costing, rating, extending, windowing, demanding}
use Rattle.psy_plan.specs.Supplies.{supplying}
use Rattle.psy_plan.proofs.Courses.{decided_given, decided_pure, decided_then, decided_unless}
use Rattle.psy_plan.proofs.DecidedSteps.{StepsDecide, decided_lexing, decided_parsing, decided_resolving}
use Rattle.psy_plan.proofs.lemmas.Decisions.{most_or_more, all_or_any}
use Rattle.psy_plan.proofs.ExtentLemmas.{OneHorizon, no_horizon, nearer_is}
use Rattle.psy_plan.proofs.ProcessorDemands.{feasible_none, feasible_or_overload, overload_one}
use Rattle.psy_plan.proofs.RefusalLemmas.{undrawn_by, undrawn_is, unsized_by, unsized_is, overloaded_is}
use Rattle.psy_plan.proofs.SupplyLemmas.{edges_fit, small_graphs, some_demand}

-- ---- lists

-- Something of each element of a list
module _ {X Y : Type 0} (xs : List X) (Has : X → Y → Type 0) where
  abbrev AreOf : List Y → Type 0
  AreOf ys = (number : ℕ) (x : X) (y : Y) → slice_get xs number ≡ Some x → slice_get ys number ≡ Some y → Has x y

  one_each : ((number : ℕ) (x : X) (y z : Y) → slice_get xs number ≡ Some x → Has x y → Has x z → y ≡ z) → (ys zs : List Y) → length ys ≡ length xs → length zs ≡ length xs → AreOf ys → AreOf zs → ys ≡ zs
  one_each one ys zs long long' are are' = same_lists ys zs (long ∙ sym long') (λ number y z at at'.
      let within : number < length ys = slice_get_within ys number y at in
      let (x, here) = there xs number (omega (arith, within, long)) in
      one number x y z here (are number x y here at) (are' number x z here at'))

  some_each : ((number : ℕ) (x : X) → slice_get xs number ≡ Some x → (y : Y) × Has x y) → (ys : List Y) × (length ys ≡ length xs) × AreOf ys
  some_each some =
      let (ys, long, each) = listed (λ number y. (x : X) → slice_get xs number ≡ Some x → Has x y) (length xs) (λ number less.
      let (x, here) = there xs number less in
      let (y, has) = some number x here in
      (y, λ other at. subst (λ z. Has z y) (same_Some x other (sym here ∙ at)) has)) in
      (ys, long, λ number x y here at. each number y at x here)

-- Lines of graphs: one list, where each graph has one line
pub one_lines : ((graph : List Edge) (line other : Rate) → IsRateOf graph line → IsRateOf graph other → line ≡ other) → (graphs : List (List Edge)) (lines others : List Rate) → AreRates graphs lines → AreRates graphs others → lines ≡ others
one_lines one [] [] [] are are' = refl
one_lines one [] [] (other ∷ others) are are' = absurd are'
one_lines one [] (line ∷ lines) others are are' = absurd are
one_lines one (graph ∷ graphs) [] others are are' = absurd are
one_lines one (graph ∷ graphs) (line ∷ lines) [] are are' = absurd are'
one_lines one (graph ∷ graphs) (line ∷ lines) (other ∷ others) are are' = λ i. one graph line other are.0 are'.0 i ∷ one_lines one graphs lines others are.1 are'.1 i

some_lines : (graphs : List (List Edge)) → ((number : ℕ) (edges : List Edge) → slice_get graphs number ≡ Some edges → (line : Rate) × IsRateOf edges line) → (lines : List Rate) × AreRates graphs lines
some_lines [] each = ([], tt)
some_lines (graph ∷ graphs) each =
    let first = each 0 graph refl in
    let others = some_lines graphs (λ number edges at. each (suc number) edges at) in
    (first.0 ∷ others.0, (first.1, others.1))

-- ---- refusals

undrawn : (unit : Whole) (cause : GraphFault) → IsCause unit cause → (refusal : Refusal) × IsUndrawn unit refusal
undrawn unit (fault.Nodes agent) is = (Nodes, (agent, is))
undrawn unit (fault.Edges agent) is = (Edges, (agent, is))
undrawn unit fault.Memory never = absurd never

unsized : (unit : Whole) (nexts : List (List (List ℕ))) (cause : SizeFault) → IsFaultBy unit (OfText unit) nexts cause → (refusal : Refusal) × IsUnsizedBy unit (OfText unit) nexts refusal
unsized unit nexts (size.LargeRing variable) is = (Ring, (variable, is))
unsized unit nexts (size.Cells stream) is = (Cells, (stream, is))
unsized unit nexts (size.LargeQueue stream) is = (Queue, (stream, is))
unsized unit nexts size.Memory never = absurd never

-- ---- up to which length

pub one_extent : OneHorizon → (quantum until : ℕ) (homes : List ℕ) (lines : List Rate) (extent other : Extent) → IsExtent quantum homes lines until extent → IsExtent quantum homes lines until other → extent ≡ other
one_extent one quantum until homes lines (Horizon length) (Horizon less) (is, within) (is', within') = ap Horizon (one quantum (lines_by homes lines) length less is is')
one_extent one quantum until homes lines (Horizon length) (LastDate date) (is, within) (same, none) = let behind = none length is in absurd (omega (arith, within, behind))
one_extent one quantum until homes lines (LastDate date) (Horizon length) (same, none) (is, within) = let behind = none length is in absurd (omega (arith, within, behind))
one_extent one quantum until homes lines (LastDate date) (LastDate other) (same, none) (same', none') = ap LastDate (same ∙ sym same')

-- ---- the steps

pub decided_windowing : (graphs : List Graph) (until : ℕ) → IsDecided (windowing graphs until)
decided_windowing graphs until = decided_unless (All (HasCells until) graphs) (Any (PassesCells until) graphs) Cells not_both (all_or_any (HasCells until) (PassesCells until) each graphs)
  where
    not_both : All (HasCells until) graphs → Any (PassesCells until) graphs → ⊥
    not_both all (number, graph, less, is, more) = let few : HasCells until graph = subst (HasCells until) is (all number graph less) in omega (arith, few, more)

    each : (graph : Graph) → HasCells until graph ⊎ PassesCells until graph
    each graph = most_or_more (length graph.nodes * (until + 1)) WINDOW_CELLS

-- The demand is met, or not over one least length on one least processor.
pub one_demanding : (unit : Whole) (graphs : List Graph) (until : ℕ) → IsOne (demanding unit graphs until)
one_demanding unit graphs until = record {
  gift = λ x y p q. refl;
  stop = λ r s p q.
      let (within, processor, demand, is, over) = overloaded_is unit graphs until r p in
      let (other, another, more, is', over') = overloaded_is unit graphs until s q in
      let same = overload_one (homes unit) (edges_of graphs) unit.quantum until within other processor another demand more over over' in
      is ∙ (λ i. Infeasible (same.0 i) (same.2 i) (unit.quantum * same.0 i) (same.1 i)) ∙ sym is';
  apart = λ x r p q. let (within, processor, demand, is, over) = overloaded_is unit graphs until r q in feasible_none (homes unit) (edges_of graphs) unit.quantum until within processor demand p over;
}

module _ (laws : StepsDecide) (unit : Whole) (of : IsOfText unit) where
  pub decided_graphing : IsDecided (graphing unit)
  decided_graphing = record {
    one = record {
      gift = λ x y p q. laws.graphs unit x y of p q;
      stop = λ r s p q.
          let (cause, is, it) = undrawn_is unit r p in
          let (other, is', it') = undrawn_is unit s q in
          is ∙ ap undrawn_by (laws.cause unit cause other of it it') ∙ sym is';
      apart = λ x r p q. let (cause, is, it) = undrawn_is unit r q in laws.graphs_not_cause unit x cause of p it;
    };
    some = elim (laws.graphs_or_cause unit of) [
      | inl graphs ↦ inl graphs
      | inr cause ↦ inr (undrawn unit cause.0 cause.1)
    ];
  }

  -- the costs of an agent
  one_costs : (number : ℕ) (agent : AgentDecl) (costs others : List ℕ) → slice_get unit.agents number ≡ Some agent → AreCosts unit agent costs → AreCosts unit agent others → costs ≡ others
  one_costs number agent costs others at a b = same_lists costs others (a.count ∙ sym b.count) (λ point cost other its its'.
      laws.cost unit number agent point cost other (of, at) (a.each point cost its) (b.each point other its'))

  some_costs : (number : ℕ) (agent : AgentDecl) → slice_get unit.agents number ≡ Some agent → (costs : List ℕ) × AreCosts unit agent costs
  some_costs number agent at =
      let (costs, long, each) = listed (λ point cost. IsCut (HasCost unit.functions agent point) COST cost) (length agent.points) (λ point less. laws.some_cost unit number agent point (of, at) less) in
      (costs, record { count = long; each = each })

  pub decided_costing : IsDecided (costing unit)
  decided_costing = decided_given _ (λ x y p q. one_each unit.agents (AreCosts unit) one_costs x y p.count q.count p.each q.each)
      (let (costs, long, each) = some_each unit.agents (AreCosts unit) some_costs in (costs, record { count = long; each = each }))

  -- the points that follow those of an agent
  one_nexts : (number : ℕ) (agent : AgentDecl) (list other : List (List ℕ)) → slice_get unit.agents number ≡ Some agent → AreNexts unit.functions agent list → AreNexts unit.functions agent other → list ≡ other
  one_nexts number agent list other at are are' =
      ap (λ (t : Timing). t.nexts) (laws.timing unit number (timing_of unit agent list) (timing_of unit agent other) (agent, list, at, are, refl) (agent, other, at, are', refl))

  pub decided_following : IsDecided (following unit)
  decided_following = decided_given _ (λ x y p q. one_each unit.agents (AreNexts unit.functions) one_nexts x y p.count q.count p.each q.each)
      (let (lists, long, each) = some_each unit.agents (AreNexts unit.functions) (λ number agent at. laws.some_nexts unit number agent (of, at)) in (lists, record { count = long; each = each }))

  pub decided_sizing : (graphs : List Graph) (nexts : List (List (List ℕ))) → AreGraphs unit graphs → AreAllNexts unit nexts → IsDecided (sizing unit nexts)
  decided_sizing graphs nexts drawn follow = record {
    one = record {
      gift = λ x y p q. laws.sizes unit graphs nexts x y of drawn follow p.0 q.0;
      stop = λ r s p q.
          let (cause, is, it) = unsized_is unit (OfText unit) nexts r p in
          let (other, is', it') = unsized_is unit (OfText unit) nexts s q in
          is ∙ ap unsized_by (laws.size_fault unit graphs nexts cause other of drawn follow it it') ∙ sym is';
      apart = λ x r p q. let (cause, is, it) = unsized_is unit (OfText unit) nexts r q in laws.sizes_not_fault unit graphs nexts x cause of drawn follow p.0 p.1 it;
    };
    some = elim (laws.sizes_or_fault unit graphs nexts of drawn follow) [
      | inl sizes ↦ inl (sizes.0, (sizes.1, sizes.2))
      | inr cause ↦ inr (unsized unit nexts cause.0 cause.1)
    ];
  }

  pub decided_rating : (graphs : List Graph) → AreGraphs unit graphs → IsDecided (rating graphs)
  decided_rating graphs drawn = decided_given _ (one_lines laws.line (edges_of graphs)) (some_lines (edges_of graphs) (λ number edges at.
      let (nodes, fit, few) = edges_fit graphs (laws.edges unit graphs of drawn) (small_graphs unit graphs drawn) number edges at in laws.some_line edges nodes fit few))

  pub decided_extending : (lines : List Rate) (until : ℕ) → IsDecided (extending unit lines until)
  decided_extending lines until = decided_given _ (one_extent laws.horizon unit.quantum until (homes unit) lines) (elim (laws.horizon_or_none unit.quantum (lines_by (homes unit) lines)) [
    | inl (horizon, is) ↦ elim (most_or_more horizon until) [
      | inl within ↦ (Horizon horizon, (is, within))
      | inr behind ↦ (LastDate until, nearer_is laws.horizon unit.quantum until horizon (homes unit) lines (LastDate until) is (refl, behind))
    ]
    | inr none ↦ (LastDate until, no_horizon unit.quantum until (homes unit) lines none)
  ])

  pub decided_demanding : (graphs : List Graph) (until : ℕ) → AreGraphs unit graphs → IsDecided (demanding unit graphs until)
  decided_demanding graphs until drawn = record {
    one = one_demanding unit graphs until;
    some = elim (feasible_or_overload (homes unit) (edges_of graphs) unit.quantum (some_demand graphs (laws.edges unit graphs of drawn) (small_graphs unit graphs drawn) laws.greatest unit) until) [
      | inl feasible ↦ inl (tt, feasible)
      | inr over ↦ inr (Infeasible over.0 over.2 (unit.quantum * over.0) over.1, (over.3, refl))
    ];
  }

-- ---- the steps in a row

module _ (laws : StepsDecide) where
  pub decided_translating : (bytes : List ℕ) → IsDecided (translating bytes)
  decided_translating bytes = decided_then _ _ (decided_lexing laws bytes) (λ tokens lexed.
      decided_then _ _ (decided_parsing laws tokens) (λ raw parsed.
      decided_resolving laws raw))

  pub decided_supplying : (unit : Whole) (until : ℕ) → IsOfText unit → IsDecided (supplying unit until)
  decided_supplying unit until of = decided_then _ _ (decided_graphing laws unit of) (λ graphs drawn.
      decided_then _ _ (decided_following laws unit of) (λ nexts follow.
      decided_then _ _ (decided_sizing laws unit of graphs nexts drawn follow) (λ sizes sized.
      decided_then _ _ (decided_rating laws unit of graphs drawn) (λ lines rated.
      decided_then _ _ (decided_extending laws unit of lines until) (λ extent looked.
      decided_then _ _ (decided_windowing graphs (length_of extent)) (λ few held.
      decided_then _ _ (decided_demanding laws unit of graphs (length_of extent) drawn) (λ done feasible.
      decided_pure (record { graphs = graphs; nexts = nexts; sizes = sizes; lines = lines; extent = extent }))))))))
