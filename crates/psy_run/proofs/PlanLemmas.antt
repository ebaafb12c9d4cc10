-- What makes a plan of a program, and what is known of inputs that have no lists.
use Rattle.std.proofs.Common.{◌≡◌, ◌∙◌, sym, ap, subst, ℕ, ◌<◌, ◌≤◌, List, [], map, length, get_or, arith}
use Rattle.std.proofs.lemmas.List.{length-map}
use Rattle.std.proofs.lemmas.Option.{slice_get_within, get_or_from_slice_get}
use Rattle.psy_demand.proofs.lemmas.EdgesOf.{edges_at}
use Rattle.psy_lists.proofs.lemmas.Places.{there}
use Rattle.psy_dates.specs.declared.plan.Plan.{Plan}
use Rattle.psy_dates.specs.Plans.{IsFeasibleFor, system_of}
use Rattle.psy_demand.specs.Criterion.{edges_of}
use Rattle.psy_graph.specs.declared.graph.Graph.{Graph}
use Rattle.psy_graph.specs.Graphs.{AreGraphs, IsTimingOf, spot_of}
use Rattle.psy_base.specs.declared.edge.Edge.{Edge}
use Rattle.psy_base.specs.declared.limits.TheConstants.{PROCESSORS}
use Rattle.psy_history.specs.Compiled.{AreEdgesOf}
use Rattle.psy_history.specs.Processors.{edges_for, processors}
use Rattle.psy_meaning.specs.Demand.{AreFeasible, IsFeasible, edges_on}
use Rattle.psy_meaning.specs.Flow.{AreAllNexts}
use Rattle.psy_meaning.specs.Units.{IsBare}
use Rattle.psy_tree.specs.Parts.{agent_at, homes}
use Rattle.psy_meaning.specs.Graph.{IsGraph}
use Rattle.psy_meaning.specs.Timing.{Timing, timing_of}
use Rattle.psy_tree.specs.declared.unit.Unit.{Unit as Whole}
use Rattle.psy_plan.specs.Supplies.{IsSupply, Supply}

-- ---- a plan's graphs

-- How the actions of an agent begin and end, where these points follow
timing_at : (unit : Whole) (nexts : List (List (List ℕ))) → AreAllNexts unit nexts → (number : ℕ) → number < length unit.agents
    → IsTimingOf unit number (timing_of unit (agent_at unit number) (get_or nexts number []))
timing_at unit nexts follow number less =
    let agent = there unit.agents number less in
    let list = there nexts number (subst (λ n. number < n) (sym follow.count) less) in
    let same : timing_of unit (agent_at unit number) (get_or nexts number []) ≡ timing_of unit agent.0 list.0 =
    ap (λ a. timing_of unit a (get_or nexts number [])) (get_or_from_slice_get unit.agents number agent.0 _ agent.1) ∙ ap (timing_of unit agent.0) (get_or_from_slice_get nexts number list.0 [] list.1) in
    (agent.0, list.0, agent.1, follow.each number agent.0 list.0 agent.1 list.1, same)

-- Where each processor can supply what the agents with its number may demand, those that a program has can.
abbrev pub Apart : Type 0
Apart = (unit : Whole) (graphs : List (List Edge)) (quantum until : ℕ) → IsBare unit → AreFeasible (homes unit) graphs quantum until
    → (processor : ℕ) → processor < processors unit → IsFeasible (edges_for unit processor graphs) quantum until

-- A program has no more processors than there may be, and what their agents may demand is told by the agents' numbers.
pub each_apart : ((unit : Whole) → IsBare unit → processors unit ≤ PROCESSORS) → ((unit : Whole) (processor : ℕ) (graphs : List (List Edge)) → edges_for unit processor graphs ≡ edges_on (homes unit) processor graphs) → Apart
each_apart few same unit graphs quantum until bare feasible processor less =
    subst (λ gs. IsFeasible gs quantum until) (sym (same unit processor graphs)) (feasible processor (omega (arith, few unit bare, less)))

module _ (one : (unit : Whole) (number : ℕ) (timing other : Timing) → IsTimingOf unit number timing → IsTimingOf unit number other → timing ≡ other) where
  pub are_edges : (plan : Plan) (graphs : List Graph) → AreAllNexts plan.unit plan.nexts → AreGraphs plan.unit graphs → AreEdgesOf (system_of plan [] (λ agent. [])) (edges_of graphs)
  are_edges plan graphs follow are = record {
    count = length-map graphs (λ graph. graph.edges) ∙ are.count;
    each = λ number edges at.
        let graph = edges_at graphs number edges at in
        let has = are.each number graph.0 graph.1 in
        let less : number < length plan.unit.agents = subst (λ n. number < n) are.count (slice_get_within graphs number graph.0 graph.1) in
        let same = one plan.unit number has.0 (timing_of plan.unit (agent_at plan.unit number) (get_or plan.nexts number [])) has.1 (timing_at plan.unit plan.nexts follow number less) in
        (map spot_of graph.0.nodes, subst (λ t. IsGraph t (map spot_of graph.0.nodes) edges) same (subst (λ e. IsGraph has.0 (map spot_of graph.0.nodes) e) graph.2 has.2.drawn));
  }

  pub is_feasible_for : Apart → (plan : Plan) → IsBare plan.unit → AreAllNexts plan.unit plan.nexts → (supply : Supply) → IsSupply plan.unit plan.until supply → IsFeasibleFor plan
  is_feasible_for apart plan bare follow supply is = record {
    graphs = edges_of supply.graphs;
    drawn = are_edges plan supply.graphs follow is.drawn;
    feasible = apart plan.unit (edges_of supply.graphs) plan.unit.quantum plan.until bare is.feasible;
  }
