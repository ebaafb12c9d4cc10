-- What is left of the proof of `supply::graphs`.
use Rattle.psy_graph.specs.Graphs.{AreGraphs, AreGraphsBy}
use Rattle.psy_plan.specs.Steps.{IsUndrawn, IsUndrawnBy}
use Rattle.psy_plan.proofs.SupplyLemmas.{undrawn_by_nexts}
use Rattle.psy_plan.proofs.lemmas.Stopping.{given_by, stopped_by}
use Rattle.psy_plan.proofs.supply.graphs.Goals as goal

pub graphs_by-requires-clause-ways : goal.graphs_by-requires-clause-ways
graphs_by-requires-clause-ways c = c.listed.ensures.known c.args.unit.now c.args.ways.now c.requires.text c.requires.ways

pub returns-clause-ok : goal.returns-clause-ok
returns-clause-ok c =
    let unit = c.args.unit.now in
    let nexts = c.args.ways.now.nexts in
    given_by (AreGraphsBy unit nexts) (AreGraphs unit) (λ graphs. (c.one_graph.ensures.by_nexts unit nexts graphs c.requires.ways.nexts).1) _ c.graphs_by.ensures.ok

pub returns-clause-refused : goal.returns-clause-refused
returns-clause-refused c =
    let unit = c.args.unit.now in
    let nexts = c.args.ways.now.nexts in
    stopped_by (IsUndrawnBy unit nexts) (IsUndrawn unit) (undrawn_by_nexts unit nexts (λ fault. c.one_graph.ensures.causes_by_nexts unit nexts fault c.requires.ways.nexts)) _ c.graphs_by.ensures.refused
