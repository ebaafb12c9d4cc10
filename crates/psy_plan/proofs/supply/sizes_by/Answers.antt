-- What is left of the proof of `supply::sizes_by`.
use Rattle.std.proofs.Common.{sym, subst}
use Rattle.psy_graph.specs.Graphs.{AreGraphsBy}
use Rattle.psy_meaning.specs.KnownWays.{Listed}
use Rattle.psy_plan.proofs.SupplyLemmas.{unsized_ring, unsized_cells, unsized_queue}
use Rattle.psy_plan.proofs.supply.sizes_by.Goals as goal

pub sizes_by-requires-clause-graphs : goal.sizes_by-requires-clause-graphs
sizes_by-requires-clause-graphs c = subst (AreGraphsBy c.args.unit.now c.args.ways.now.nexts) (sym c.as_slice.ensures) c.requires.graphs

pub returns-in-Ok-clause-ok : goal.returns-in-Ok-clause-ok
returns-in-Ok-clause-ok c = (c.in-Ok.ensures.sizes, c.in-Ok.ensures.counted)

pub returns-in-Err-LargeRing-clause-refused : goal.returns-in-Err-LargeRing-clause-refused
returns-in-Err-LargeRing-clause-refused c =
    unsized_ring c.args.unit.now (Listed c.args.ways.now) c.args.ways.now.nexts c.in-Err-LargeRing.field-0 c.in-Err-LargeRing.field-0-0 c.in-Err-LargeRing.field-0-is c.in-Err-LargeRing.ensures.cause

pub returns-in-Err-Cells-clause-refused : goal.returns-in-Err-Cells-clause-refused
returns-in-Err-Cells-clause-refused c =
    unsized_cells c.args.unit.now (Listed c.args.ways.now) c.args.ways.now.nexts c.in-Err-Cells.field-0 c.in-Err-Cells.field-0-0 c.in-Err-Cells.field-0-is c.in-Err-Cells.ensures.cause

pub returns-in-Err-LargeQueue-clause-refused : goal.returns-in-Err-LargeQueue-clause-refused
returns-in-Err-LargeQueue-clause-refused c =
    unsized_queue c.args.unit.now (Listed c.args.ways.now) c.args.ways.now.nexts c.in-Err-LargeQueue.field-0 c.in-Err-LargeQueue.field-0-0 c.in-Err-LargeQueue.field-0-is c.in-Err-LargeQueue.ensures.cause
