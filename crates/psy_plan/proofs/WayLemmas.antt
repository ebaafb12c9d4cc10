-- What the laws of ways say of the steps: by the lists of the ways of a program's statements they come to what they come to by the statements.
use Rattle.std.proofs.Common.{List}
use Rattle.std.specs.Prelude.{◌↔◌}
use Rattle.psy_base.specs.declared.sizes.Sizes.{Sizes}
use Rattle.psy_base.specs.declared.ways.Ways.{Ways as WayLists}
use Rattle.psy_graph.specs.declared.fault.GraphFault.{GraphFault}
use Rattle.psy_graph.specs.declared.graph.Graph.{Graph}
use Rattle.psy_graph.specs.Graphs.{AreGraphs, AreGraphsBy, IsCause, IsCauseBy}
use Rattle.psy_meaning.specs.BufferSizes.{AreSizes}
use Rattle.psy_meaning.specs.KnownWays.{Listed, OfText}
use Rattle.psy_sizes.specs.declared.fault.SizeFault.{SizeFault}
use Rattle.psy_sizes.specs.Faults.{CanCount, IsFaultBy}
use Rattle.psy_tree.specs.declared.unit.Unit.{Unit as Whole}
use Rattle.psy_plan.specs.declared.refusal.Refusal.{Refusal}
use Rattle.psy_plan.specs.Steps.{graphing, graphing_by, sizing, sizing_by}
use Rattle.psy_plan.proofs.SupplyLemmas.{undrawn_by_nexts, unsized_by_ways}

-- What the laws say of a program's own ways
pub record AreOwn (unit : Whole) (ways : WayLists) : Type 0 where
  pub graphs : (graphs : List Graph) → AreGraphs unit graphs ↔ AreGraphsBy unit ways.nexts graphs
  pub causes : (fault : GraphFault) → IsCauseBy unit ways.nexts fault → IsCause unit fault
  pub sizes : (sizes : Sizes) → AreSizes unit (Listed ways) ways.nexts sizes ↔ AreSizes unit (OfText unit) ways.nexts sizes
  pub counted : CanCount unit (Listed ways) ways.nexts → CanCount unit (OfText unit) ways.nexts
  pub faults : (fault : SizeFault) → IsFaultBy unit (Listed ways) ways.nexts fault → IsFaultBy unit (OfText unit) ways.nexts fault

module _ (unit : Whole) (ways : WayLists) (own : AreOwn unit ways) where
  pub own_graphs : (graphs : List Graph) → (graphing_by unit ways.nexts).gives graphs → (graphing unit).gives graphs
  own_graphs graphs are = (own.graphs graphs).1 are

  pub own_undrawn : (refusal : Refusal) → (graphing_by unit ways.nexts).stops refusal → (graphing unit).stops refusal
  own_undrawn refusal stops = undrawn_by_nexts unit ways.nexts own.causes refusal stops

  pub own_sizes : (sizes : Sizes) → (sizing_by unit (Listed ways) ways.nexts).gives sizes → (sizing unit ways.nexts).gives sizes
  own_sizes sizes (are, counted) = ((own.sizes sizes).0 are, own.counted counted)

  pub own_unsized : (refusal : Refusal) → (sizing_by unit (Listed ways) ways.nexts).stops refusal → (sizing unit ways.nexts).stops refusal
  own_unsized refusal stops = unsized_by_ways unit (Listed ways) (OfText unit) ways.nexts own.faults refusal stops
