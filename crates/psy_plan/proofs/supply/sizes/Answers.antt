-- What is left of the proof of `supply::sizes`.
use Rattle.psy_meaning.specs.KnownWays.{Listed}
use Rattle.psy_plan.specs.Steps.{sizing, sizing_by}
use Rattle.psy_plan.proofs.WayLemmas.{AreOwn, own_sizes, own_unsized}
use Rattle.psy_plan.proofs.lemmas.Stopping.{given_by, stopped_by}
use Rattle.psy_plan.proofs.supply.sizes.Goals as goal
use Rattle.psy_plan.proofs.supply.sizes.Goals.{After-listed_sizes}

own : (c : After-listed_sizes) → AreOwn c.args.unit.now c.args.ways.now
own c =
    let unit = c.args.unit.now in
    let ways = c.args.ways.now in
    record {
      graphs = λ graphs. c.one_graph.ensures.by_nexts unit ways.nexts graphs c.requires.ways.nexts;
      causes = λ fault. c.one_graph.ensures.causes_by_nexts unit ways.nexts fault c.requires.ways.nexts;
      sizes = λ sizes. c.listed_sizes.ensures.sizes unit ways sizes c.requires.text c.requires.ways;
      counted = c.listed_sizes.ensures.counted unit ways c.requires.text c.requires.ways;
      faults = λ fault. c.listed_sizes.ensures.faults unit ways fault c.requires.text c.requires.ways;
    }

pub sizes_by-requires-clause-ways : goal.sizes_by-requires-clause-ways
sizes_by-requires-clause-ways c = c.listed.ensures.known c.args.unit.now c.args.ways.now c.requires.text c.requires.ways

pub sizes_by-requires-clause-graphs : goal.sizes_by-requires-clause-graphs
sizes_by-requires-clause-graphs c = (c.one_graph.ensures.by_nexts c.args.unit.now c.args.ways.now.nexts c.args.graphs.now c.requires.ways.nexts).0 c.requires.graphs

pub returns-clause-ok : goal.returns-clause-ok
returns-clause-ok c =
    let unit = c.args.unit.now in
    let ways = c.args.ways.now in
    given_by (sizing_by unit (Listed ways) ways.nexts).gives (sizing unit ways.nexts).gives (own_sizes unit ways (own (goal.at.returns-clause-ok c).After-listed_sizes)) _ c.sizes_by.ensures.ok

pub returns-clause-refused : goal.returns-clause-refused
returns-clause-refused c =
    let unit = c.args.unit.now in
    let ways = c.args.ways.now in
    stopped_by (sizing_by unit (Listed ways) ways.nexts).stops (sizing unit ways.nexts).stops (own_unsized unit ways (own (goal.at.returns-clause-refused c).After-listed_sizes)) _ c.sizes_by.ensures.refused
