-- What a program that its processors can run has, and the steps in a row that find it.
use Rattle.std.specs.Prelude.{◌≡◌, ℕ, List}
use Rattle.psy_base.specs.declared.sizes.Sizes.{Sizes}
use Rattle.psy_base.specs.declared.ways.Ways.{Ways as WayLists}
use Rattle.psy_demand.specs.Criterion.{edges_of}
use Rattle.psy_graph.specs.declared.graph.Graph.{Graph}
use Rattle.psy_graph.specs.Graphs.{AreGraphs, AreGraphsBy}
use Rattle.psy_meaning.specs.BufferSizes.{AreSizes}
use Rattle.psy_meaning.specs.Demand.{AreFeasible}
use Rattle.psy_meaning.specs.Flow.{AreAllNexts}
use Rattle.psy_meaning.specs.KnownWays.{Listed, OfText}
use Rattle.psy_rate.specs.declared.line.Rate.{Rate}
use Rattle.psy_rate.specs.Lines.{AreRates}
use Rattle.psy_tree.specs.Parts.{homes}
use Rattle.psy_tree.specs.declared.unit.Unit.{Unit as Whole}
use Rattle.psy_plan.specs.declared.extent.Extent.{Extent}
use Rattle.psy_plan.specs.declared.extent.Extent.TheVariants.{Horizon, LastDate}
use Rattle.psy_plan.specs.declared.supply.Supplied.{Supplied}
use Rattle.psy_plan.specs.Courses.{Course, pure, ◌>>=◌}
use Rattle.psy_plan.specs.Extents.{length_of}
use Rattle.psy_plan.specs.Steps.{graphing, graphing_by, following, sizing, sizing_by, rating, extending, windowing, demanding}

-- What a program that its processors can run has: its graphs, the points that follow each of its points, the sizes of its buffers, the lines above
-- its agents' demands, and up to which length their demand was looked at
pub record Supply : Type 0 where
  pub graphs : List Graph
  pub nexts : List (List (List ℕ))
  pub sizes : Sizes
  pub lines : List Rate
  pub extent : Extent

-- That, where each processor can supply what its agents may demand up to this date
abbrev pub supplying : Whole → ℕ → Course Supply
supplying unit until = do
  graphs ← graphing unit
  nexts ← following unit
  sizes ← sizing unit nexts
  lines ← rating graphs
  extent ← extending unit lines until
  _ ← windowing graphs (length_of extent)
  _ ← demanding unit graphs (length_of extent)
  pure (record { graphs = graphs; nexts = nexts; sizes = sizes; lines = lines; extent = extent })

-- The same by these ways of its actions
abbrev pub supplying_by : Whole → WayLists → ℕ → Course Supply
supplying_by unit ways until = do
  graphs ← graphing_by unit ways.nexts
  sizes ← sizing_by unit (Listed ways) ways.nexts
  lines ← rating graphs
  extent ← extending unit lines until
  _ ← windowing graphs (length_of extent)
  _ ← demanding unit graphs (length_of extent)
  pure (record { graphs = graphs; nexts = ways.nexts; sizes = sizes; lines = lines; extent = extent })

-- What was found of a program whose points are followed by these
abbrev pub supply_of : List (List (List ℕ)) → Supplied → Supply
supply_of nexts found = record { graphs = found.graphs; nexts = nexts; sizes = found.sizes; lines = found.lines; extent = found.extent }

-- The tables by which the demand is found keep their limit, and each processor can supply it, over each length up to this one.
abbrev pub meeting : Whole → List Graph → ℕ → Course (Unit {0})
meeting unit graphs top = windowing graphs top >>= (λ done. demanding unit graphs top)

-- ---- what it says

-- What the verdict on a demand tells: where it was looked at up to the horizon, each processor supplies it over every length, whatever the last
-- date; else over each length up to that date.
abbrev pub IsMet : Whole → List Graph → Extent → Type 0
IsMet unit graphs (Horizon length) = (top : ℕ) → AreFeasible (homes unit) (edges_of graphs) unit.quantum top
IsMet unit graphs (LastDate date) = AreFeasible (homes unit) (edges_of graphs) unit.quantum date

-- What a program has that is supplied up to this date
pub record IsSupply (unit : Whole) (until : ℕ) (supply : Supply) : Type 0 where
  pub drawn : AreGraphs unit supply.graphs
  pub followed : AreAllNexts unit supply.nexts
  pub sized : AreSizes unit (OfText unit) supply.nexts supply.sizes
  pub rated : AreRates (edges_of supply.graphs) supply.lines
  pub feasible : AreFeasible (homes unit) (edges_of supply.graphs) unit.quantum until
  pub met : IsMet unit supply.graphs supply.extent

-- The same by given ways of its actions
pub record IsSupplyBy (unit : Whole) (ways : WayLists) (until : ℕ) (supply : Supply) : Type 0 where
  pub drawn : AreGraphsBy unit ways.nexts supply.graphs
  pub followed : supply.nexts ≡ ways.nexts
  pub sized : AreSizes unit (Listed ways) ways.nexts supply.sizes
  pub rated : AreRates (edges_of supply.graphs) supply.lines
  pub feasible : AreFeasible (homes unit) (edges_of supply.graphs) unit.quantum until
  pub met : IsMet unit supply.graphs supply.extent
