-- What is measured of a program before it runs, and why it can't be.
use Rattle.std.specs.Prelude.{ℕ, List}
use Rattle.psy_base.specs.declared.sizes.Sizes.{Sizes}
use Rattle.psy_demand.specs.Criterion.{AreEach, AreWeights}
use Rattle.psy_flow.specs.Costs.{AreAllCosts}
use Rattle.psy_graph.specs.declared.graph.Graph.{Graph}
use Rattle.psy_graph.specs.Graphs.{AreGraphs}
use Rattle.psy_meaning.specs.BufferSizes.{AreSizes}
use Rattle.psy_meaning.specs.KnownWays.{OfText}
use Rattle.psy_meaning.specs.Flow.{AreAllNexts}
use Rattle.psy_sizes.specs.declared.fault.SizeFault.TheVariants as size
use Rattle.psy_sizes.specs.Faults.{IsCause as IsSizeCause}
use Rattle.psy_plan.specs.declared.refusal.Refusal.{Refusal}
use Rattle.psy_plan.specs.declared.refusal.Refusal.TheVariants.{Ring, Queue, Cells}
use Rattle.psy_plan.specs.Steps.{graphing, windowing}
use Rattle.psy_plan.specs.Tables.{IsLine}
use Rattle.psy_tree.specs.declared.unit.Unit.{Unit as Whole}
use Rattle.psy_report.specs.declared.measures.Measures.{Measures}

-- ---- what is measured

-- The sizes of a program's buffers, by the points that follow each point
abbrev pub AreSizesOf : Whole → Sizes → Type 0
AreSizesOf unit sizes = (nexts : List (List (List ℕ))) → AreAllNexts unit nexts → AreSizes unit (OfText unit) nexts sizes

-- All that is measured: costs, sizes, and by the graphs of the agents the lines and lists of their demands
pub record AreMeasures (unit : Whole) (top : ℕ) (measures : Measures) : Type 0 where
  pub costs : AreAllCosts unit measures.costs
  pub sizes : AreSizesOf unit measures.sizes
  pub graphs : List Graph
  pub drawn : AreGraphs unit graphs
  pub lines : AreEach IsLine graphs measures.lines
  pub lists : AreEach (AreWeights top) graphs measures.lists

-- ---- why it can't be

-- A ring or a queue would have more places than it may, or a table for a queue more cells.
abbrev pub IsUnsized : Whole → Refusal → Type 0
IsUnsized unit Ring = (variable : ℕ) × IsSizeCause unit (size.LargeRing variable)
IsUnsized unit Cells = (stream : ℕ) × IsSizeCause unit (size.Cells stream)
IsUnsized unit Queue = (stream : ℕ) × IsSizeCause unit (size.LargeQueue stream)
IsUnsized unit _ = ⊥

-- The limit that is passed
pub data IsUnmeasured (unit : Whole) (top : ℕ) (refusal : Refusal) : Type 0 where
  by_graphs : (graphing unit).stops refusal → IsUnmeasured unit top refusal
  by_sizes : IsUnsized unit refusal → IsUnmeasured unit top refusal
  by_lists : (graphs : List Graph) → AreGraphs unit graphs → (windowing graphs top).stops refusal → IsUnmeasured unit top refusal
