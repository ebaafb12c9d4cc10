-- The graphs of a program's agents, and the limits that they may pass.
use Rattle.std.specs.Prelude.{◌≡◌, ℕ, ◌+◌, ◌<◌, ◌≤◌, ◌%◌, List, map, length, Some, slice_get}
use Rattle.std.specs.List.{All, Contains}
use Rattle.psy_base.specs.declared.limits.TheConstants.{ADVANCE, BUDGET, NODES, EDGES, POINTS}
use Rattle.psy_clock.specs.Dates.{IsClock}
use Rattle.psy_tree.specs.declared.unit.AgentDecl.{AgentDecl}
use Rattle.psy_tree.specs.declared.unit.Unit.{Unit as Whole}
use Rattle.psy_meaning.specs.Flow.{AreNexts, Rises}
use Rattle.psy_meaning.specs.Timing.{Timing, timing_of, point_at, following, budget_at, deadline, MayStart}
use Rattle.psy_meaning.specs.RingSizes.{agent_timing}
use Rattle.psy_meaning.specs.Graph.{Spot, IsCycle, IsGraph, PassesNodes, PassesEdges}
use Rattle.psy_graph.specs.declared.fault.GraphFault.{GraphFault}
use Rattle.psy_graph.specs.declared.fault.GraphFault.TheVariants.{Nodes, Edges, Memory}
use Rattle.psy_graph.specs.declared.graph.Graph.{Graph}
use Rattle.psy_graph.specs.declared.graph.Node.{Node}

-- The spot of a node
abbrev pub spot_of : Node → Spot
spot_of node = record { point = node.point; phase = node.phase }

-- The graph of an agent whose actions begin and end so. A node tells its actions' budget, and how long after their start they are due.
pub record IsGraphOf (timing : Timing) (graph : Graph) : Type 0 where
  pub drawn : IsGraph timing (map spot_of graph.nodes) graph.edges
  pub dues : (cycle : ℕ) → IsCycle timing cycle → (node : Node) (start : ℕ) → Contains graph.nodes node → MayStart timing node.point start
      → start % cycle ≡ node.phase → start + node.due ≡ deadline timing node.point start
  pub budgets : (node : Node) → Contains graph.nodes node → node.budget ≡ budget_at timing node.point

-- It keeps the limits.
abbrev pub IsSmall : Graph → Type 0
IsSmall graph = (length graph.nodes ≤ NODES) × (length graph.edges ≤ EDGES)

-- What is known of an agent of a text: its clocks and numbers are lawful, and each of its points is followed by some, none of
-- them the head.
pub record IsTimed (timing : Timing) : Type 0 where
  pub clocks : All IsClock timing.clocks
  pub named : All (λ point. point.clock < length timing.clocks) timing.points
  pub counts : (point : ℕ) → 1 ≤ point → point < length timing.points → (1 ≤ (point_at timing point).count) × ((point_at timing point).count ≤ ADVANCE)
  pub budgets : All (λ point. point.budget ≤ BUDGET) timing.points
  pub head : 1 ≤ length timing.points
  pub few : length timing.points ≤ POINTS
  pub lists : length timing.nexts ≡ length timing.points
  pub some : (point : ℕ) → point < length timing.points → 1 ≤ length (following timing point)
  pub within : (point to : ℕ) → Contains (following timing point) to → (1 ≤ to) × (to < length timing.points)
  pub rise : (point : ℕ) → Rises (following timing point)

-- How the actions of an agent of a unit begin and end, by its number
abbrev pub IsTimingOf : Whole → ℕ → Timing → Type 0
IsTimingOf unit number timing = (agent : AgentDecl) × (nexts : List (List ℕ)) × (slice_get unit.agents number ≡ Some agent)
    × AreNexts unit.functions agent nexts × (timing ≡ timing_of unit agent nexts)

-- The agent of this number has this graph, which keeps the limits.
abbrev pub HasGraph : Whole → ℕ → Graph → Type 0
HasGraph unit number graph = (timing : Timing) × IsTimingOf unit number timing × IsGraphOf timing graph × IsSmall graph

-- The graphs of all agents of a unit, in their order
pub record AreGraphs (unit : Whole) (graphs : List Graph) : Type 0 where
  pub count : length graphs ≡ length unit.agents
  pub each : (number : ℕ) (graph : Graph) → slice_get graphs number ≡ Some graph → HasGraph unit number graph

-- The agents before this one have graphs that keep the limits.
abbrev pub HaveGraphsBefore : Whole → ℕ → Type 0
HaveGraphsBefore unit number = (before : ℕ) → before < number → (graph : Graph) × HasGraph unit before graph

-- What is at fault: the first agent whose graph would pass a limit, and that limit
abbrev pub IsCause : Whole → GraphFault → Type 0
IsCause unit (Nodes agent) = HaveGraphsBefore unit agent × (timing : Timing) × IsTimingOf unit agent timing × PassesNodes timing
IsCause unit (Edges agent) = HaveGraphsBefore unit agent × (timing : Timing) × IsTimingOf unit agent timing × PassesEdges timing
IsCause unit Memory = ⊥

-- ---- by the points that follow each point

-- Where these points follow each point of each agent, the agent of this number has this graph, which keeps the limits.
abbrev pub HasGraphBy : Whole → List (List (List ℕ)) → ℕ → Graph → Type 0
HasGraphBy unit nexts number graph = IsGraphOf (agent_timing unit nexts number) graph × IsSmall graph

-- The graphs of all agents of a unit, in their order
pub record AreGraphsBy (unit : Whole) (nexts : List (List (List ℕ))) (graphs : List Graph) : Type 0 where
  pub count : length graphs ≡ length unit.agents
  pub each : (number : ℕ) (graph : Graph) → slice_get graphs number ≡ Some graph → HasGraphBy unit nexts number graph

-- The agents before this one have graphs that keep the limits.
abbrev pub HaveGraphsBeforeBy : Whole → List (List (List ℕ)) → ℕ → Type 0
HaveGraphsBeforeBy unit nexts number = (before : ℕ) → before < number → (graph : Graph) × HasGraphBy unit nexts before graph

-- What is at fault: the first agent whose graph would pass a limit, and that limit
abbrev pub IsCauseBy : Whole → List (List (List ℕ)) → GraphFault → Type 0
IsCauseBy unit nexts (Nodes agent) = HaveGraphsBeforeBy unit nexts agent × (agent < length unit.agents) × PassesNodes (agent_timing unit nexts agent)
IsCauseBy unit nexts (Edges agent) = HaveGraphsBeforeBy unit nexts agent × (agent < length unit.agents) × PassesEdges (agent_timing unit nexts agent)
IsCauseBy unit nexts Memory = ⊥
