-- What is left of the proof of `laws::supplies_by`.
use Rattle.std.proofs.Common.{◌<◌, List, [], length, get_or, arith}
use Rattle.std.specs.List.{All}
use Rattle.std.proofs.lemmas.Option.{slice_get-get_or}
use Rattle.psy_base.specs.declared.ways.Ways.{Ways as WayLists}
use Rattle.psy_graph.specs.declared.graph.Graph.{Graph}
use Rattle.psy_graph.specs.Graphs.{AreGraphsBy}
use Rattle.psy_meaning.specs.ListedWays.{AreWaysFor}
use Rattle.psy_meaning.specs.RingSizes.{agent_timing}
use Rattle.psy_meaning.specs.Units.{IsBare}
use Rattle.psy_tree.specs.declared.unit.Unit.{Unit as Whole}
use Rattle.psy_plan.proofs.SupplyLemmas.{Leads, supply_is_by}
use Rattle.psy_plan.proofs.laws.supplies_by.Goals as goal
use Rattle.psy_plan.proofs.laws.supplies_by.Goals.{After-greatest}

-- The edges of graphs by ways lead from node to node.
lead : After-greatest → (unit : Whole) (ways : WayLists) → IsBare unit → AreWaysFor unit ways → (graphs : List Graph) → AreGraphsBy unit ways.nexts graphs → All Leads graphs
lead c unit ways bare are graphs by number d less =
    let its = by.each number (get_or graphs number d) (slice_get-get_or graphs number d less) in
    c.one_graph.ensures.fit (agent_timing unit ways.nexts number) (get_or graphs number d) (c.one_graph.ensures.timed unit ways number bare are (omega (arith, less, by.count))) its.0

pub returns : goal.returns
returns c unit ways until supply bare are =
    supply_is_by (record { every = c.always.ensures.every; on = c.rates.ensures.on; greatest = c.greatest.ensures.some }) unit ways until supply (lead c unit ways bare are)
