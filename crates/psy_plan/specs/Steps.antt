-- The steps that plan a program, by its statements or by given ways of its actions, each with its refusal.
use Rattle.std.specs.Prelude.{◌≡◌, ℕ, ◌*◌, List}
use Rattle.std.specs.List.{All, Any}
use Rattle.psy_base.specs.declared.sizes.Sizes.{Sizes}
use Rattle.psy_tree.specs.Parts.{homes}
use Rattle.psy_tree.specs.declared.unit.Unit.{Unit as Whole}
use Rattle.psy_meaning.specs.BufferSizes.{AreSizes}
use Rattle.psy_meaning.specs.Flow.{AreAllNexts}
use Rattle.psy_meaning.specs.KnownWays.{Ways as KnownWays, OfText}
use Rattle.psy_meaning.specs.Demand.{AreFeasible, IsOverloadOn}
use Rattle.psy_demand.specs.Criterion.{HasCells, PassesCells, edges_of}
use Rattle.psy_flow.specs.Costs.{AreAllCosts}
use Rattle.psy_graph.specs.declared.fault.GraphFault.TheVariants as fault
use Rattle.psy_graph.specs.declared.graph.Graph.{Graph}
use Rattle.psy_graph.specs.Graphs.{AreGraphs, AreGraphsBy, IsCause, IsCauseBy}
use Rattle.psy_rate.specs.declared.line.Rate.{Rate}
use Rattle.psy_rate.specs.Lines.{AreRates}
use Rattle.psy_sizes.specs.declared.fault.SizeFault.TheVariants as size
use Rattle.psy_sizes.specs.Faults.{CanCount, IsFaultBy}
use Rattle.psy_plan.specs.declared.extent.Extent.{Extent}
use Rattle.psy_plan.specs.declared.refusal.Refusal.{Refusal}
use Rattle.psy_plan.specs.declared.refusal.Refusal.TheVariants.{Nodes, Edges, Ring, Queue, Cells, Infeasible}
use Rattle.psy_plan.specs.Courses.{Course, step, unless}
use Rattle.psy_plan.specs.Extents.{IsExtent}

-- ---- graphs

-- The first agent whose graph would have more than 512 nodes, or else more than 4,096 edges
abbrev pub IsUndrawn : Whole → Refusal → Type 0
IsUndrawn unit Nodes = (agent : ℕ) × IsCause unit (fault.Nodes agent)
IsUndrawn unit Edges = (agent : ℕ) × IsCause unit (fault.Edges agent)
IsUndrawn unit _ = ⊥

-- The action graphs of a program's agents
abbrev pub graphing : Whole → Course (List Graph)
graphing unit = step (AreGraphs unit) (IsUndrawn unit)

-- The same where these points may follow each point
abbrev pub IsUndrawnBy : Whole → List (List (List ℕ)) → Refusal → Type 0
IsUndrawnBy unit nexts Nodes = (agent : ℕ) × IsCauseBy unit nexts (fault.Nodes agent)
IsUndrawnBy unit nexts Edges = (agent : ℕ) × IsCauseBy unit nexts (fault.Edges agent)
IsUndrawnBy unit nexts _ = ⊥

-- The action graphs of its agents then
abbrev pub graphing_by : Whole → List (List (List ℕ)) → Course (List Graph)
graphing_by unit nexts = step (AreGraphsBy unit nexts) (IsUndrawnBy unit nexts)

-- ---- points that follow

-- By agent, the points that may follow each of its points: they are there for each program.
abbrev pub following : Whole → Course (List (List (List ℕ)))
following unit = step (AreAllNexts unit) (λ refusal. ⊥)

-- ---- sizes

-- The first variable whose ring would have more than 65,536 places, or else the first stream whose queue would, or for which a table would
-- have more than 4,000,000 cells, by these ways
abbrev pub IsUnsizedBy : Whole → KnownWays → List (List (List ℕ)) → Refusal → Type 0
IsUnsizedBy unit ways nexts Ring = (variable : ℕ) × IsFaultBy unit ways nexts (size.LargeRing variable)
IsUnsizedBy unit ways nexts Cells = (stream : ℕ) × IsFaultBy unit ways nexts (size.Cells stream)
IsUnsizedBy unit ways nexts Queue = (stream : ℕ) × IsFaultBy unit ways nexts (size.LargeQueue stream)
IsUnsizedBy unit ways nexts _ = ⊥

-- The sizes of a program's buffers by these ways: no ring or queue has more than 65,536 places, and no table for a queue more than 4,000,000 cells.
abbrev pub sizing_by : Whole → KnownWays → List (List (List ℕ)) → Course Sizes
sizing_by unit ways nexts = step (λ sizes. AreSizes unit ways nexts sizes × CanCount unit ways nexts) (IsUnsizedBy unit ways nexts)

-- The same by the program's statements
abbrev pub sizing : Whole → List (List (List ℕ)) → Course Sizes
sizing unit nexts = sizing_by unit (OfText unit) nexts

-- ---- costs

-- The greatest costs of the actions, by agent and point: they are there for each program.
abbrev pub costing : Whole → Course (List (List ℕ))
costing unit = step (AreAllCosts unit) (λ refusal. ⊥)

-- ---- demand

-- The lines above the demands of the agents, which hold for every length: each graph has one.
abbrev pub rating : List Graph → Course (List Rate)
rating graphs = step (AreRates (edges_of graphs)) (λ refusal. ⊥)

-- The length up to which the next two steps look: the horizon of the lines, or the last date where there is no horizon by then
abbrev pub extending : Whole → List Rate → ℕ → Course Extent
extending unit lines until = step (IsExtent unit.quantum (homes unit) lines until) (λ refusal. ⊥)

-- The tables by which the demand is found have at most 4,000,000 cells each.
abbrev pub windowing : List Graph → ℕ → Course (Unit {0})
windowing graphs top = unless (All (HasCells top) graphs) (Any (PassesCells top) graphs) Cells

-- The least length over which a processor can't supply what its agents may demand, and the least such processor
abbrev pub IsOverloaded : Whole → List Graph → ℕ → Refusal → Type 0
IsOverloaded unit graphs top (Infeasible length demand supply processor) =
    IsOverloadOn (homes unit) (edges_of graphs) unit.quantum top length processor demand × (supply ≡ unit.quantum * length)
IsOverloaded unit graphs top _ = ⊥

-- The processor demand criterion up to a length, on each processor
abbrev pub demanding : Whole → List Graph → ℕ → Course (Unit {0})
demanding unit graphs top = step (λ done. AreFeasible (homes unit) (edges_of graphs) unit.quantum top) (IsOverloaded unit graphs top)
