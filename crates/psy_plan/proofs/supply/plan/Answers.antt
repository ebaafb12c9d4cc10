-- What is left of the proof of `supply::plan`.
use Rattle.psy_plan.specs.declared.supply.Supplied.{Supplied}
use Rattle.psy_plan.specs.Supplies.{supplying, supplying_by, supply_of}
use Rattle.psy_plan.proofs.SupplyLemmas.{supply_by_ways, unsupplied_by_ways}
use Rattle.psy_plan.proofs.WayLemmas.{AreOwn, own_graphs, own_sizes, own_undrawn, own_unsized}
use Rattle.psy_plan.proofs.lemmas.Stopping.{given_by, stopped_by}
use Rattle.psy_plan.proofs.supply.plan.Goals as goal
use Rattle.psy_plan.proofs.supply.plan.Goals.{After-listed_sizes}

own : (c : After-listed_sizes) → AreOwn c.args.unit.now c.args.ways.now
own c =
    let unit = c.args.unit.now in
    let ways = c.args.ways.now in
    record {
      graphs = λ graphs. c.one_graph.ensures.by_nexts unit ways.nexts graphs c.requires.ways.nexts;
      causes = λ fault. c.one_graph.ensures.causes_by_nexts unit ways.nexts fault c.requires.ways.nexts;
      sizes = λ sizes. c.listed_sizes.ensures.sizes unit ways sizes c.requires.text c.requires.ways;
      counted = c.listed_sizes.ensures.counted unit ways c.requires.text c.requires.ways;
      faults = λ fault. c.listed_sizes.ensures.faults unit ways fault c.requires.text c.requires.ways;
    }

pub plan_by-requires-clause-ways : goal.plan_by-requires-clause-ways
plan_by-requires-clause-ways c = c.listed.ensures.known c.args.unit.now c.args.ways.now c.requires.text c.requires.ways

pub returns-clause-ok : goal.returns-clause-ok
returns-clause-ok c =
    let unit = c.args.unit.now in
    let ways = c.args.ways.now in
    let its = own (goal.at.returns-clause-ok c).After-listed_sizes in
    given_by (λ (found : Supplied). (supplying_by unit ways c.args.until).gives (supply_of ways.nexts found)) (λ (found : Supplied). (supplying unit c.args.until).gives (supply_of ways.nexts found))
    (λ found. supply_by_ways unit ways c.args.until c.requires.ways.nexts (own_graphs unit ways its) (own_sizes unit ways its) (supply_of ways.nexts found)) _ c.plan_by.ensures.ok

pub returns-clause-refused : goal.returns-clause-refused
returns-clause-refused c =
    let unit = c.args.unit.now in
    let ways = c.args.ways.now in
    let its = own (goal.at.returns-clause-refused c).After-listed_sizes in
    stopped_by (supplying_by unit ways c.args.until).stops (supplying unit c.args.until).stops
    (unsupplied_by_ways unit ways c.args.until c.requires.ways.nexts (own_graphs unit ways its) (own_sizes unit ways its) (own_undrawn unit ways its) (own_unsized unit ways its)) _ c.plan_by.ensures.refused
