-- What is left of the proof of `supply::graphs_by`.
use Rattle.psy_plan.proofs.SupplyLemmas.{small_graphs_by, undrawn_nodes, undrawn_edges}
use Rattle.psy_plan.proofs.supply.graphs_by.Goals as goal

pub returns-in-Ok-clause-small : goal.returns-in-Ok-clause-small
returns-in-Ok-clause-small c = small_graphs_by c.args.unit.now c.args.ways.now.nexts c.in-Ok.graphs c.in-Ok.ensures.graphs

pub returns-in-Err-Nodes-clause-refused : goal.returns-in-Err-Nodes-clause-refused
returns-in-Err-Nodes-clause-refused c =
    undrawn_nodes c.args.unit.now c.args.ways.now.nexts c.in-Err-Nodes.field-0 c.in-Err-Nodes.field-0-0 c.in-Err-Nodes.field-0-is c.in-Err-Nodes.ensures.cause

pub returns-in-Err-Edges-clause-refused : goal.returns-in-Err-Edges-clause-refused
returns-in-Err-Edges-clause-refused c =
    undrawn_edges c.args.unit.now c.args.ways.now.nexts c.in-Err-Edges.field-0 c.in-Err-Edges.field-0-0 c.in-Err-Edges.field-0-is c.in-Err-Edges.ensures.cause
