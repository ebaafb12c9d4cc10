-- What the steps on action graphs come to: the graphs, the sizes, the lines, the demand.
use Rattle.std.proofs.Common.{◌≡◌, ◌∙◌, ◌⊎◌, inl, inr, refl, sym, subst, ℕ, suc, ◌+◌, ◌*◌, ◌^◌, ◌<◌, ◌≤◌, List, [], ◌∷◌, length, map, get_or, slice_get, Some, All, Any, arith, Result, Ok, Err}
use Rattle.std.specs.Prelude.{◌↔◌}
use Rattle.std.specs.List.{range_with_len}
use Rattle.std.specs.Result.{IsErrOf}
use Rattle.std.proofs.lemmas.List.{length-map}
use Rattle.std.proofs.lemmas.List.Elements.{All-map, All-nil, All-weaker}
use Rattle.std.proofs.lemmas.Option.{slice_get-get_or, slice_get_within, get_or_from_slice_get}
use Rattle.psy_base.specs.declared.edge.Edge.{Edge}
use Rattle.psy_base.specs.declared.limits.TheConstants.{EDGES, FILE_BYTES, PROCESSORS, WINDOW_CELLS}
use Rattle.psy_base.specs.declared.sizes.Sizes.{Sizes}
use Rattle.psy_base.specs.declared.ways.Ways.{Ways as WayLists}
use Rattle.psy_base.specs.Paths.{FitsDueLast, IsGreatestWeight}
use Rattle.psy_demand.proofs.lemmas.EdgesOf.{edges_at}
use Rattle.psy_lists.proofs.lemmas.Places.{there}
use Rattle.psy_tree.specs.Parts.{homes}
use Rattle.psy_tree.specs.declared.raw.Raw.{Raw}
use Rattle.psy_tree.specs.declared.token.Token.{Token}
use Rattle.psy_tree.specs.declared.unit.Unit.{Unit as Whole}
use Rattle.psy_tree.specs.Grammar.{Spells}
use Rattle.psy_tree.specs.Stands.{Stands}
use Rattle.psy_tree.specs.Tokens.{TokensOf}
use Rattle.psy_demand.specs.Criterion.{AreEach, HasCells, PassesCells, edges_of}
use Rattle.psy_graph.specs.declared.fault.GraphFault.{GraphFault}
use Rattle.psy_graph.specs.declared.fault.GraphFault.TheVariants as fault
use Rattle.psy_graph.specs.declared.graph.Graph.{Graph}
use Rattle.psy_graph.specs.Graphs.{AreGraphs, AreGraphsBy, IsCause, IsCauseBy, IsSmall}
use Rattle.psy_meaning.specs.KnownWays.{Ways as KnownWays, Listed}
use Rattle.psy_meaning.specs.Demand.{AreFeasible, IsDemand, IsOverloadOn, Suffices, edges_on}
use Rattle.psy_meaning.specs.Units.{IsBare, IsBareAgent, IsOfText}
use Rattle.psy_meaning.specs.Flow.{AreAllNexts}
use Rattle.psy_rate.specs.declared.line.Rate.{Rate}
use Rattle.psy_rate.specs.Horizons.{IsHorizon, AreDrawn, AreFeasible as GroupsFeasible}
use Rattle.psy_rate.specs.Lines.{AreRates, AreAll, lines_by, lines_on}
use Rattle.psy_sizes.specs.declared.fault.SizeFault.{SizeFault}
use Rattle.psy_sizes.specs.declared.fault.SizeFault.TheVariants as size
use Rattle.psy_sizes.specs.Faults.{IsFaultBy}
use Rattle.psy_window.specs.declared.fault.WindowFault.{WindowFault}
use Rattle.psy_window.specs.declared.fault.WindowFault.TheVariants as window
use Rattle.psy_window.specs.declared.span.Span.{Span}
use Rattle.psy_window.specs.declared.span.Span.TheVariants.{DueLast}
use Rattle.psy_window.specs.Windows.{IsEdge, Fits}
use Rattle.psy_plan.specs.declared.extent.Extent.{Extent}
use Rattle.psy_plan.specs.declared.extent.Extent.TheVariants.{Horizon, LastDate}
use Rattle.psy_plan.specs.declared.refusal.Refusal.{Refusal}
use Rattle.psy_plan.specs.declared.refusal.Refusal.TheVariants.{Nodes, Edges, Ring, Queue, Cells, Infeasible}
use Rattle.psy_plan.specs.Courses.{in_row}
use Rattle.psy_plan.specs.Extents.{IsExtent, length_of as top_of}
use Rattle.psy_plan.specs.Programs.{IsProgram}
use Rattle.psy_plan.specs.Steps.{graphing, graphing_by, sizing, sizing_by, IsUndrawn, IsUndrawnBy, IsUnsizedBy}
use Rattle.psy_plan.specs.Supplies.{IsMet, IsSupply, IsSupplyBy, Supply, meeting, supplying, supplying_by}
use Rattle.psy_plan.specs.Tables.{IsLine}
use Rattle.psy_plan.proofs.Courses.{stops_first, stops_later}
use Rattle.psy_plan.proofs.lemmas.Decisions.{all_or_any, most_or_more}
use Rattle.psy_plan.proofs.ProcessorDemands.{by_each, by_one, demand_on, feasible_none, feasible_or_overload, holds_on, overload_further, overload_one}

-- ---- the program

-- Each program of a text that is short enough to be read is one of a text.
abbrev TextsHold : Type 0
TextsHold = (bytes : List ℕ) (tokens : List Token) (raw : Raw) (unit : Whole) → length bytes ≤ FILE_BYTES → TokensOf bytes tokens → Spells raw tokens → Stands unit raw → IsOfText unit

pub translated : TextsHold → (bytes : List ℕ) (unit : Whole) → length bytes ≤ FILE_BYTES → IsProgram bytes unit → IsOfText unit
unfolding in_row
translated of_text bytes unit short (tokens, lexed, (raw, parsed, stands)) = of_text bytes tokens raw unit short lexed parsed.1 stands

-- ---- graphs and sizes

pub undrawn_nodes : (unit : Whole) (nexts : List (List (List ℕ))) (f : GraphFault) (agent : ℕ) → f ≡ fault.Nodes agent → (f ≡ fault.Memory) ⊎ IsCauseBy unit nexts f → IsUndrawnBy unit nexts Nodes
undrawn_nodes unit nexts f agent is (inl memory) = let no : fault.Nodes agent ≡ fault.Memory = sym is ∙ memory in absurd cc
undrawn_nodes unit nexts f agent is (inr cause) = (agent, subst (IsCauseBy unit nexts) is cause)

pub undrawn_edges : (unit : Whole) (nexts : List (List (List ℕ))) (f : GraphFault) (agent : ℕ) → f ≡ fault.Edges agent → (f ≡ fault.Memory) ⊎ IsCauseBy unit nexts f → IsUndrawnBy unit nexts Edges
undrawn_edges unit nexts f agent is (inl memory) = let no : fault.Edges agent ≡ fault.Memory = sym is ∙ memory in absurd cc
undrawn_edges unit nexts f agent is (inr cause) = (agent, subst (IsCauseBy unit nexts) is cause)

-- What is at fault by the points that follow is so by the statements.
pub undrawn_by_nexts : (unit : Whole) (nexts : List (List (List ℕ))) → ((fault : GraphFault) → IsCauseBy unit nexts fault → IsCause unit fault) → (refusal : Refusal) → IsUndrawnBy unit nexts refusal → IsUndrawn unit refusal
undrawn_by_nexts unit nexts causes Nodes (agent, is) = (agent, causes (fault.Nodes agent) is)
undrawn_by_nexts unit nexts causes Edges (agent, is) = (agent, causes (fault.Edges agent) is)
undrawn_by_nexts unit nexts causes _ never = absurd never

-- The ring that is too large
pub unsized_ring : (unit : Whole) (ways : KnownWays) (nexts : List (List (List ℕ))) (f : SizeFault) (variable : ℕ) → f ≡ size.LargeRing variable → (f ≡ size.Memory) ⊎ IsFaultBy unit ways nexts f → IsUnsizedBy unit ways nexts Ring
unsized_ring unit ways nexts f variable is (inl memory) = let no : size.LargeRing variable ≡ size.Memory = sym is ∙ memory in absurd cc
unsized_ring unit ways nexts f variable is (inr cause) = (variable, subst (IsFaultBy unit ways nexts) is cause)

-- The table that has too many cells
pub unsized_cells : (unit : Whole) (ways : KnownWays) (nexts : List (List (List ℕ))) (f : SizeFault) (stream : ℕ) → f ≡ size.Cells stream → (f ≡ size.Memory) ⊎ IsFaultBy unit ways nexts f → IsUnsizedBy unit ways nexts Cells
unsized_cells unit ways nexts f stream is (inl memory) = let no : size.Cells stream ≡ size.Memory = sym is ∙ memory in absurd cc
unsized_cells unit ways nexts f stream is (inr cause) = (stream, subst (IsFaultBy unit ways nexts) is cause)

-- The queue that is too large
pub unsized_queue : (unit : Whole) (ways : KnownWays) (nexts : List (List (List ℕ))) (f : SizeFault) (stream : ℕ) → f ≡ size.LargeQueue stream → (f ≡ size.Memory) ⊎ IsFaultBy unit ways nexts f → IsUnsizedBy unit ways nexts Queue
unsized_queue unit ways nexts f stream is (inl memory) = let no : size.LargeQueue stream ≡ size.Memory = sym is ∙ memory in absurd cc
unsized_queue unit ways nexts f stream is (inr cause) = (stream, subst (IsFaultBy unit ways nexts) is cause)

-- What is at fault by some ways is so by others.
pub unsized_by_ways : (unit : Whole) (ways others : KnownWays) (nexts : List (List (List ℕ))) → ((fault : SizeFault) → IsFaultBy unit ways nexts fault → IsFaultBy unit others nexts fault) → (refusal : Refusal) → IsUnsizedBy unit ways nexts refusal → IsUnsizedBy unit others nexts refusal
unsized_by_ways unit ways others nexts faults Ring (variable, is) = (variable, faults (size.LargeRing variable) is)
unsized_by_ways unit ways others nexts faults Cells (stream, is) = (stream, faults (size.Cells stream) is)
unsized_by_ways unit ways others nexts faults Queue (stream, is) = (stream, faults (size.LargeQueue stream) is)
unsized_by_ways unit ways others nexts faults _ never = absurd never

pub small_graphs : (unit : Whole) (graphs : List Graph) → AreGraphs unit graphs → All IsSmall graphs
small_graphs unit graphs are k d less = (are.each k (get_or graphs k d) (slice_get-get_or graphs k d less)).3

pub small_graphs_by : (unit : Whole) (nexts : List (List (List ℕ))) (graphs : List Graph) → AreGraphsBy unit nexts graphs → All IsSmall graphs
small_graphs_by unit nexts graphs are k d less = (are.each k (get_or graphs k d) (slice_get-get_or graphs k d less)).1

-- ---- the processors of agents

-- Each agent with a graph has its processor, one that there may be.
pub homes_of_graphs : (unit : Whole) (graphs : List Graph) → length graphs ≡ length unit.agents → length (homes unit) ≡ length graphs
homes_of_graphs unit graphs count = length-map unit.agents (λ agent. agent.processor) ∙ sym count

pub homes_known : (unit : Whole) → IsBare unit → All (λ home. home < PROCESSORS) (homes unit)
homes_known unit bare = All-map (λ home. home < PROCESSORS) (λ agent. agent.processor) unit.agents
    (All-weaker (IsBareAgent unit) (λ agent. agent.processor < PROCESSORS) (λ agent is. is.processor) unit.agents bare.agents)

-- ---- lines

pub are_rates : (graphs : List Graph) (lines : List Rate) → AreEach IsLine graphs lines → AreRates (edges_of graphs) lines
are_rates [] [] are = tt
are_rates [] (line ∷ lines) are = absurd (omega (arith, are.count))
are_rates (graph ∷ graphs) [] are = absurd (omega (arith, are.count))
are_rates (graph ∷ graphs) (line ∷ lines) are =
    ((are.each 0 graph line refl refl).its, are_rates graphs lines (record { count = omega (arith, are.count); each = λ i. are.each (suc i) }))

module _ (graphs : List Graph) (lines : List Rate) (are : AreEach IsLine graphs lines) where
  line_at : (k : ℕ) (d : Rate) → k < length lines → (graph : Graph) × IsLine graph (get_or lines k d)
  line_at k d less =
      let graph = there graphs k (omega (arith, less, are.count)) in
      (graph.0, are.each k graph.0 (get_or lines k d) graph.1 (slice_get-get_or lines k d less))

  pub all_rates_small : All (λ line. line.rate ≤ 2 ^ 40) lines
  all_rates_small k d less = (line_at k d less).1.rate

  pub all_intercepts_small : All (λ line. line.intercept < 2 ^ 50) lines
  all_intercepts_small k d less = (line_at k d less).1.intercept

-- ---- demand

-- Where the criterion gives a verdict, no table passes its limit.
pub has_cells : {A : Type 0} (top : ℕ) (graphs : List Graph) (result : Result A WindowFault) (x : A) → result ≡ Ok x → (IsErrOf result window.Cells ↔ Any (PassesCells top) graphs) → All (HasCells top) graphs
has_cells top graphs result x is passes = elim (all_or_any (HasCells top) (PassesCells top) (λ graph. most_or_more (length graph.nodes * (top + 1)) WINDOW_CELLS) graphs) [
  | inl all ↦ all
  | inr any ↦ absurd (let no : Ok x ≡ Err window.Cells = sym is ∙ passes.1 any in cc)
]

-- The edges of a graph lead from node to node.
abbrev pub Leads : Graph → Type 0
Leads graph = All (IsEdge (length graph.nodes)) graph.edges

-- So do those of a list of edges that is one of a graph; and they are few.
module _ (graphs : List Graph) (leads : All Leads graphs) (small : All IsSmall graphs) where
  pub edges_fit : (number : ℕ) (list : List Edge) → slice_get (edges_of graphs) number ≡ Some list → (nodes : ℕ) × All (IsEdge nodes) list × (length list ≤ EDGES)
  edges_fit number list at =
      let (graph, its, same) = edges_at graphs number list at in
      let less : number < length graphs = slice_get_within graphs number graph its in
      let here = get_or_from_slice_get graphs number graph graph its in
      let fit = subst Leads here (leads number graph less) in
      let few : length graph.edges ≤ EDGES = subst (λ g. length g.edges ≤ EDGES) here (small number graph less).1 in
      subst (λ es. (nodes : ℕ) × All (IsEdge nodes) es × (length es ≤ EDGES)) same (length graph.nodes, fit, few)

  module _ (greatest : (graph : List Edge) (nodes : ℕ) (span : Span) (within : ℕ) → All (IsEdge nodes) graph → (n : ℕ) × IsGreatestWeight graph (Fits span within) n) where
    -- each graph has a greatest weight of the paths that fit a length
    pub some_weight : (within number : ℕ) (list : List Edge) → slice_get (edges_of graphs) number ≡ Some list → (n : ℕ) × IsGreatestWeight list (FitsDueLast within) n
    some_weight within number list at = let (nodes, fit, few) = edges_fit number list at in greatest list nodes DueLast within fit

    -- so the demand on each processor over each length is there
    pub some_demand : (unit : Whole) (processor within : ℕ) → (demand : ℕ) × IsDemand (edges_on (homes unit) processor (edges_of graphs)) within demand
    some_demand unit processor within = demand_on (homes unit) processor (edges_of graphs) within (greatest [] 0 DueLast within (All-nil (IsEdge 0)))
        (λ k d less. some_weight within k (get_or (edges_of graphs) k d) (slice_get-get_or (edges_of graphs) k d less))

-- ---- other lengths

-- What the laws say of lines and demands
pub record LinesHold : Type 0 where
  pub every : (groups : List (List (List Edge))) (lines : List (List Rate)) (quantum horizon : ℕ) → AreDrawn groups → AreAll groups lines → IsHorizon quantum lines horizon → GroupsFeasible groups quantum horizon
      → (top : ℕ) → GroupsFeasible groups quantum top
  pub on : (homes : List ℕ) (processor : ℕ) (graphs : List (List Edge)) (lines : List Rate) → AreRates graphs lines → AreRates (edges_on homes processor graphs) (lines_on homes processor lines)
  pub greatest : (graph : List Edge) (nodes : ℕ) (span : Span) (within : ℕ) → All (IsEdge nodes) graph → (n : ℕ) × IsGreatestWeight graph (Fits span within) n

module _ (hold : LinesHold) (unit : Whole) (graphs : List Graph) (lines : List Rate) (until : ℕ) (leads : All Leads graphs) (small : All IsSmall graphs) (rated : AreRates (edges_of graphs) lines) where
  demands : (processor within : ℕ) → (demand : ℕ) × IsDemand (edges_on (homes unit) processor (edges_of graphs)) within demand
  demands = some_demand graphs leads small hold.greatest unit

  -- The edges on a processor
  abbrev own : ℕ → List (List Edge)
  own processor = edges_on (homes unit) processor (edges_of graphs)

  -- The lines on each are those of its graphs.
  rated_on : (processors : List ℕ) → AreAll (map own processors) (map (λ processor. lines_on (homes unit) processor lines) processors)
  rated_on [] = tt
  rated_on (processor ∷ processors) = (hold.on (homes unit) processor (edges_of graphs) lines rated, rated_on processors)

  -- Where the demand is supplied up to the horizon, it is over every length.
  always_met : (horizon : ℕ) → IsHorizon unit.quantum (lines_by (homes unit) lines) horizon → AreFeasible (homes unit) (edges_of graphs) unit.quantum horizon → (top : ℕ) → AreFeasible (homes unit) (edges_of graphs) unit.quantum top
  always_met horizon is feasible top processor known within some most =
      let IsDrawn : List Edge → Type 0 = λ graph. (nodes : ℕ) × All (IsEdge nodes) graph in
      let all : All IsDrawn (edges_of graphs) = λ k d less. (
      let (nodes, fit, few) = edges_fit graphs leads small k (get_or (edges_of graphs) k d) (slice_get-get_or (edges_of graphs) k d less) in
      (nodes, fit)) in
      let lead : AreDrawn (map own (range_with_len 0 PROCESSORS)) = by_each (All IsDrawn) own PROCESSORS (λ p less. holds_on IsDrawn (homes unit) p (edges_of graphs) (0, All-nil (IsEdge 0)) all) in
      by_one (λ gs. Suffices gs unit.quantum within) own PROCESSORS processor known
      (hold.every (map own (range_with_len 0 PROCESSORS)) (lines_by (homes unit) lines) unit.quantum horizon lead (rated_on (range_with_len 0 PROCESSORS)) is
      (λ length above below. by_each (λ gs. Suffices gs unit.quantum length) own PROCESSORS (λ p less. feasible p less length above below)) top within some most)

  -- What is supplied up to the length that is looked at is supplied up to the last date, and the verdict is true.
  pub looked_met : (extent : Extent) → IsExtent unit.quantum (homes unit) lines until extent → AreFeasible (homes unit) (edges_of graphs) unit.quantum (top_of extent) → AreFeasible (homes unit) (edges_of graphs) unit.quantum until × IsMet unit graphs extent
  looked_met (Horizon horizon) (is, within) feasible = (always_met horizon is feasible until, always_met horizon is feasible)
  looked_met (LastDate date) (same, none) feasible = (subst (AreFeasible (homes unit) (edges_of graphs) unit.quantum) same feasible, feasible)

  -- The least length over which it isn't is the same up to both, and so is the least processor.
  pub looked_overload : (within processor demand : ℕ) (extent : Extent) → IsExtent unit.quantum (homes unit) lines until extent → IsOverloadOn (homes unit) (edges_of graphs) unit.quantum (top_of extent) within processor demand
      → IsOverloadOn (homes unit) (edges_of graphs) unit.quantum until within processor demand
  looked_overload within processor demand (Horizon horizon) (is, near) over = overload_further (homes unit) (edges_of graphs) unit.quantum horizon until within processor demand near over
  looked_overload within processor demand (LastDate date) (same, none) over = subst (λ top. IsOverloadOn (homes unit) (edges_of graphs) unit.quantum top within processor demand) same over

  pub overload_looked : (within processor demand : ℕ) (extent : Extent) → IsExtent unit.quantum (homes unit) lines until extent → IsOverloadOn (homes unit) (edges_of graphs) unit.quantum until within processor demand
      → IsOverloadOn (homes unit) (edges_of graphs) unit.quantum (top_of extent) within processor demand
  overload_looked within processor demand (LastDate date) (same, none) over = subst (λ top. IsOverloadOn (homes unit) (edges_of graphs) unit.quantum top within processor demand) (sym same) over
  overload_looked within processor demand (Horizon horizon) (is, near) over =
      elim (feasible_or_overload (homes unit) (edges_of graphs) unit.quantum demands horizon) [
        | inl feasible ↦ absurd (feasible_none (homes unit) (edges_of graphs) unit.quantum until within processor demand (always_met horizon is feasible until) over)
        | inr (least, lowest, passed, first) ↦ (
            let (length, its, same) = overload_one (homes unit) (edges_of graphs) unit.quantum until least within lowest processor passed demand (looked_overload least lowest passed (Horizon horizon) (is, near) first) over in
            subst (λ n. IsOverloadOn (homes unit) (edges_of graphs) unit.quantum horizon n processor demand) length
            (subst (λ p. IsOverloadOn (homes unit) (edges_of graphs) unit.quantum horizon least p demand) its
            (subst (IsOverloadOn (homes unit) (edges_of graphs) unit.quantum horizon least lowest) same first)))
      ]

-- ---- the chain

module _ (unit : Whole) (ways : WayLists) (until : ℕ) where
  pub supply_undrawn : (refusal : Refusal) → (graphing_by unit ways.nexts).stops refusal → (supplying_by unit ways until).stops refusal
  supply_undrawn refusal stops = stops_first _ _ refusal stops

  module _ (graphs : List Graph) (are : AreGraphsBy unit ways.nexts graphs) where
    pub supply_unsized : (refusal : Refusal) → (sizing_by unit (Listed ways) ways.nexts).stops refusal → (supplying_by unit ways until).stops refusal
    supply_unsized refusal stops = stops_later _ _ graphs are refusal (stops_first _ _ refusal stops)

    module _ (sizes : Sizes) (lines : List Rate) (extent : Extent) (sized : (sizing_by unit (Listed ways) ways.nexts).gives sizes) (rated : AreRates (edges_of graphs) lines) (looked : IsExtent unit.quantum (homes unit) lines until extent) where
      -- The last two steps in a row
      pub supply_unmet : (refusal : Refusal) → (meeting unit graphs (top_of extent)).stops refusal → (supplying_by unit ways until).stops refusal
      unfolding in_row
      supply_unmet refusal (inl passes) = inr (graphs, are, inr (sizes, sized, inr (lines, rated, inr (extent, looked, inl passes))))
      supply_unmet refusal (inr (done, cells, over)) = inr (graphs, are, inr (sizes, sized, inr (lines, rated, inr (extent, looked, inr (done, cells, inl over)))))

pub supply_gives : (unit : Whole) (ways : WayLists) (until top : ℕ) (supply : Supply) (done : Unit {0}) → AreGraphsBy unit ways.nexts supply.graphs → supply.nexts ≡ ways.nexts → (sizing_by unit (Listed ways) ways.nexts).gives supply.sizes
    → AreRates (edges_of supply.graphs) supply.lines → IsExtent unit.quantum (homes unit) supply.lines until supply.extent → top ≡ top_of supply.extent → (meeting unit supply.graphs top).gives done → (supplying_by unit ways until).gives supply
unfolding in_row
supply_gives unit ways until top supply done are nexts sized rated looked same (had, cells, feasible) =
    let cells' = subst (λ t. All (HasCells t) supply.graphs) same cells in
    let feasible' = subst (AreFeasible (homes unit) (edges_of supply.graphs) unit.quantum) same feasible in
    let whole : supply ≡ record { graphs = supply.graphs; nexts = ways.nexts; sizes = supply.sizes; lines = supply.lines; extent = supply.extent } =
    λ i. record { graphs = supply.graphs; nexts = nexts i; sizes = supply.sizes; lines = supply.lines; extent = supply.extent } in
    (supply.graphs, are, (supply.sizes, sized, (supply.lines, rated, (supply.extent, looked, (had, cells', (done, feasible', whole))))))

-- ---- by ways, and by statements

-- The steps by the ways of a program's statements come to what those by its statements come to.
module _ (unit : Whole) (ways : WayLists) (until : ℕ) (follow : AreAllNexts unit ways.nexts) where
  pub supply_by_ways : ((graphs : List Graph) → AreGraphsBy unit ways.nexts graphs → AreGraphs unit graphs) → ((sizes : Sizes) → (sizing_by unit (Listed ways) ways.nexts).gives sizes → (sizing unit ways.nexts).gives sizes)
      → (supply : Supply) → (supplying_by unit ways until).gives supply → (supplying unit until).gives supply
  unfolding in_row
  supply_by_ways draws measures supply (graphs, are, (sizes, sized, more)) = (graphs, draws graphs are, (ways.nexts, follow, (sizes, measures sizes sized, more)))

  pub unsupplied_by_ways : ((graphs : List Graph) → AreGraphsBy unit ways.nexts graphs → AreGraphs unit graphs) → ((sizes : Sizes) → (sizing_by unit (Listed ways) ways.nexts).gives sizes → (sizing unit ways.nexts).gives sizes)
      → ((refusal : Refusal) → (graphing_by unit ways.nexts).stops refusal → (graphing unit).stops refusal)
      → ((refusal : Refusal) → (sizing_by unit (Listed ways) ways.nexts).stops refusal → (sizing unit ways.nexts).stops refusal)
      → (refusal : Refusal) → (supplying_by unit ways until).stops refusal → (supplying unit until).stops refusal
  unfolding in_row
  unsupplied_by_ways draws measures undrawn unsized refusal (inl stops) = inl (undrawn refusal stops)
  unsupplied_by_ways draws measures undrawn unsized refusal (inr (graphs, are, inl stops)) = inr (graphs, draws graphs are, inr (ways.nexts, follow, inl (unsized refusal stops)))
  unsupplied_by_ways draws measures undrawn unsized refusal (inr (graphs, are, inr (sizes, sized, more))) = inr (graphs, draws graphs are, inr (ways.nexts, follow, inr (sizes, measures sizes sized, more)))

-- ---- what it says

-- The edges of the graphs of a text lead from node to node.
abbrev pub AllLead : Type 0
AllLead = (unit : Whole) (graphs : List Graph) → IsOfText unit → AreGraphs unit graphs → All Leads graphs

-- What is supplied up to the length that is looked at is supplied up to the last date, and the verdict is true.
abbrev pub AllMet : Type 0
AllMet = (unit : Whole) (graphs : List Graph) (lines : List Rate) (until : ℕ) (extent : Extent) → IsOfText unit → AreGraphs unit graphs → AreRates (edges_of graphs) lines → IsExtent unit.quantum (homes unit) lines until extent
    → AreFeasible (homes unit) (edges_of graphs) unit.quantum (top_of extent) → AreFeasible (homes unit) (edges_of graphs) unit.quantum until × IsMet unit graphs extent

pub supply_is : AllMet → (unit : Whole) (until : ℕ) (supply : Supply) → IsOfText unit → (supplying unit until).gives supply → IsSupply unit until supply
unfolding in_row
supply_is all_met unit until supply text (graphs, drawn, (nexts, followed, (sizes, sized, (lines, rated, (extent, looked, (few, held, (done, feasible, same))))))) =
    let both = all_met unit graphs lines until extent text drawn rated looked feasible in
    subst (IsSupply unit until) (sym same) (record { drawn = drawn; followed = followed; sized = sized.0; rated = rated; feasible = both.0; met = both.1 })

-- The same by given ways
pub supply_is_by : LinesHold → (unit : Whole) (ways : WayLists) (until : ℕ) (supply : Supply) → ((graphs : List Graph) → AreGraphsBy unit ways.nexts graphs → All Leads graphs) → (supplying_by unit ways until).gives supply → IsSupplyBy unit ways until supply
unfolding in_row
supply_is_by hold unit ways until supply lead (graphs, drawn, (sizes, sized, (lines, rated, (extent, looked, (few, held, (done, feasible, same)))))) =
    let both = looked_met hold unit graphs lines until (lead graphs drawn) (small_graphs_by unit ways.nexts graphs drawn) rated extent looked feasible in
    subst (IsSupplyBy unit ways until) (sym same) (record { drawn = drawn; followed = refl; sized = sized.0; rated = rated; feasible = both.0; met = both.1 })

-- Where the supply stops for the demand, the line tells the least length up to the last date over which it isn't supplied, and the least processor.
pub supply_infeasible : LinesHold → AllLead → (unit : Whole) (until length demand supply processor : ℕ) → IsOfText unit → (supplying unit until).stops (Infeasible length demand supply processor)
    → (graphs : List Graph) × AreGraphs unit graphs × IsOverloadOn (homes unit) (edges_of graphs) unit.quantum until length processor demand × (supply ≡ unit.quantum * length)
unfolding in_row
supply_infeasible hold lead unit until within demand supply processor text (inr (graphs, drawn, inr (nexts, followed, inr (sizes, sized, inr (lines, rated, inr (extent, looked, inr (few, held, inl (over, is)))))))) =
    (graphs, drawn, looked_overload hold unit graphs lines until (lead unit graphs text drawn) (small_graphs unit graphs drawn) rated within processor demand extent looked over, is)
supply_infeasible hold lead unit until within demand supply processor text (inl never) = absurd never
supply_infeasible hold lead unit until within demand supply processor text (inr (graphs, drawn, inl never)) = absurd never
supply_infeasible hold lead unit until within demand supply processor text (inr (graphs, drawn, inr (nexts, followed, inl never))) = absurd never
supply_infeasible hold lead unit until within demand supply processor text (inr (graphs, drawn, inr (nexts, followed, inr (sizes, sized, inl never)))) = absurd never
supply_infeasible hold lead unit until within demand supply processor text (inr (graphs, drawn, inr (nexts, followed, inr (sizes, sized, inr (lines, rated, inl never))))) = absurd never
supply_infeasible hold lead unit until within demand supply processor text (inr (graphs, drawn, inr (nexts, followed, inr (sizes, sized, inr (lines, rated, inr (extent, looked, inl (cells, passes))))))) =
    let no : Infeasible within demand supply processor ≡ Cells = cells in absurd cc
supply_infeasible hold lead unit until within demand supply processor text (inr (graphs, drawn, inr (nexts, followed, inr (sizes, sized, inr (lines, rated, inr (extent, looked, inr (few, held, inr (done, fits, never)))))))) = absurd never
