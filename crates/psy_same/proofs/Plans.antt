-- A program that is supplied has a plan: the code that the compiler makes of it acts as its statements, a kernel runs it, and what up to some date the
-- program's points and sizes are, they are up to each date.
use Rattle.std.proofs.Common.{◌≡◌, ◌↔◌, ◌∙◌, sym, ap, subst, ℕ, ◌<◌, ◌≤◌, List, [], length, map, get_or, arith}
use Rattle.std.proofs.lemmas.List.{length-map}
use Rattle.std.proofs.lemmas.Option.{get_or_from_slice_get, slice_get_within}
use Rattle.psy_base.specs.declared.edge.Edge.{Edge}
use Rattle.psy_base.specs.declared.limits.TheConstants.{PROCESSORS}
use Rattle.psy_base.specs.declared.sizes.Sizes.{Sizes}
use Rattle.psy_base.specs.declared.ways.Ways.{Ways as WayLists}
use Rattle.psy_dates.specs.declared.plan.Plan.{Plan}
use Rattle.psy_dates.specs.Plans.{IsFeasibleFor, IsPlan, system_of}
use Rattle.psy_demand.proofs.lemmas.EdgesOf.{edges_at}
use Rattle.psy_demand.specs.Criterion.{edges_of}
use Rattle.psy_gen.specs.Emission.{code_of}
use Rattle.psy_graph.specs.declared.graph.Graph.{Graph}
use Rattle.psy_graph.specs.Graphs.{AreGraphs, AreGraphsBy, IsTimingOf, spot_of}
use Rattle.psy_history.specs.Compiled.{AreEdgesOf, IsCompiled}
use Rattle.psy_history.specs.Processors.{edges_for, processors}
use Rattle.psy_lists.proofs.lemmas.Places.{there}
use Rattle.psy_meaning.specs.Alike.{ActsAlike}
use Rattle.psy_meaning.specs.BufferSizes.{AreSizes}
use Rattle.psy_meaning.specs.Demand.{IsFeasible, edges_on}
use Rattle.psy_meaning.specs.Flow.{AreAllNexts}
use Rattle.psy_meaning.specs.Graph.{IsGraph}
use Rattle.psy_meaning.specs.KnownWays.{OfText}
use Rattle.psy_meaning.specs.ListedWays.{AreWaysOf}
use Rattle.psy_meaning.specs.Timing.{Timing, timing_of}
use Rattle.psy_meaning.specs.Units.{IsBare, IsOfText}
use Rattle.psy_plan.specs.Supplies as supplies
use Rattle.psy_plan.specs.Supplies.{IsSupply, Supply}
use Rattle.psy_run.specs.Planned.{IsStatedPlan}
use Rattle.psy_run.specs.Services.{compiled_plan}
use Rattle.psy_tree.specs.Parts.{agent_at, homes}
use Rattle.psy_tree.specs.declared.unit.Unit.{Unit as Whole}

-- What the laws say of programs that are supplied
pub record PlansHold : Type 0 where
  pub met : (unit : Whole) (until : ℕ) (supply : Supply) → IsOfText unit → (supplies.supplying unit until).gives supply → IsSupply unit until supply
  pub acts : (unit : Whole) → IsOfText unit → ActsAlike unit (code_of unit)
  pub timing : (unit : Whole) (number : ℕ) (timing other : Timing) → IsTimingOf unit number timing → IsTimingOf unit number other → timing ≡ other
  pub few : (unit : Whole) → IsBare unit → processors unit ≤ PROCESSORS
  pub apart : (unit : Whole) (processor : ℕ) (graphs : List (List Edge)) → edges_for unit processor graphs ≡ edges_on (homes unit) processor graphs
  pub ways : (unit : Whole) (nexts : List (List (List ℕ))) → IsOfText unit → AreAllNexts unit nexts → (ways : WayLists) × AreWaysOf unit ways
  pub fits : (plan : Plan) (ways : WayLists) → IsStatedPlan plan → AreWaysOf plan.unit ways → IsPlan plan
  pub nexts : (unit : Whole) (nexts others : List (List (List ℕ))) → AreAllNexts unit nexts → AreAllNexts unit others → nexts ≡ others
  pub sizes : (unit : Whole) (graphs : List Graph) (nexts : List (List (List ℕ))) (sizes others : Sizes) → IsOfText unit → AreGraphs unit graphs
      → AreAllNexts unit nexts → AreSizes unit (OfText unit) nexts sizes → AreSizes unit (OfText unit) nexts others → sizes ≡ others
  pub graphs : (unit : Whole) (nexts : List (List (List ℕ))) (graphs : List Graph) → AreAllNexts unit nexts
      → AreGraphs unit graphs ↔ AreGraphsBy unit nexts graphs

-- How the actions of an agent begin and end, where these points follow
timing_at : (unit : Whole) (nexts : List (List (List ℕ))) → AreAllNexts unit nexts → (number : ℕ) → number < length unit.agents
    → IsTimingOf unit number (timing_of unit (agent_at unit number) (get_or nexts number []))
timing_at unit nexts follow number less =
    let agent = there unit.agents number less in
    let list = there nexts number (subst (λ n. number < n) (sym follow.count) less) in
    let same : timing_of unit (agent_at unit number) (get_or nexts number []) ≡ timing_of unit agent.0 list.0 =
    ap (λ a. timing_of unit a (get_or nexts number [])) (get_or_from_slice_get unit.agents number agent.0 _ agent.1)
    ∙ ap (timing_of unit agent.0) (get_or_from_slice_get nexts number list.0 [] list.1) in
    (agent.0, list.0, agent.1, follow.each number agent.0 list.0 agent.1 list.1, same)

module _ (laws : PlansHold) (unit : Whole) (text : IsOfText unit) (until : ℕ) (supply : Supply) (given : (supplies.supplying unit until).gives supply) where
  pub its_supply : IsSupply unit until supply
  its_supply = laws.met unit until supply text given

  -- The plan by which it is run
  abbrev pub its_plan : Plan
  its_plan = compiled_plan unit supply.nexts supply.sizes until

  are_edges : AreEdgesOf (system_of its_plan [] (λ agent. [])) (edges_of supply.graphs)
  are_edges = record {
    count = length-map supply.graphs (λ graph. graph.edges) ∙ its_supply.drawn.count;
    each = λ number edges at.
        let graph = edges_at supply.graphs number edges at in
        let has = its_supply.drawn.each number graph.0 graph.1 in
        let less : number < length unit.agents = subst (λ n. number < n) its_supply.drawn.count (slice_get_within supply.graphs number graph.0 graph.1) in
        let same = laws.timing unit number has.0 (timing_of unit (agent_at unit number) (get_or supply.nexts number [])) has.1
        (timing_at unit supply.nexts its_supply.followed number less) in (
          map spot_of graph.0.nodes,
          subst (λ t. IsGraph t (map spot_of graph.0.nodes) edges) same
              (subst (λ e. IsGraph has.0 (map spot_of graph.0.nodes) e) graph.2 has.2.drawn),
        );
  }

  is_feasible : IsFeasibleFor its_plan
  is_feasible = record {
    graphs = edges_of supply.graphs;
    drawn = are_edges;
    feasible = λ processor less.
        subst (λ gs. IsFeasible gs unit.quantum until) (sym (laws.apart unit processor (edges_of supply.graphs)))
        (its_supply.feasible processor (omega (arith, laws.few unit text.bare, less)));
  }

  pub is_compiled : IsCompiled unit (code_of unit) supply.nexts
  is_compiled = record { text = text; alike = laws.acts unit text; followed = its_supply.followed }

  pub is_plan : IsPlan its_plan
  is_plan =
      let (ways, are) = laws.ways unit supply.nexts text its_supply.followed in
      laws.fits its_plan ways (record { compiled = is_compiled; buffers = its_supply.sized; supplied = is_feasible }) are

  -- ---- up to another date

  module _ (date : ℕ) (other : Supply) (also : (supplies.supplying unit date).gives other) where
    abbrev its_other : IsSupply unit date other
    its_other = laws.met unit date other text also

    pub same_nexts : other.nexts ≡ supply.nexts
    same_nexts = laws.nexts unit other.nexts supply.nexts its_other.followed its_supply.followed

    pub same_sizes : other.sizes ≡ supply.sizes
    same_sizes = laws.sizes unit supply.graphs supply.nexts other.sizes supply.sizes text its_supply.drawn its_supply.followed
        (subst (λ nexts. AreSizes unit (OfText unit) nexts other.sizes) same_nexts its_other.sized)
        its_supply.sized
