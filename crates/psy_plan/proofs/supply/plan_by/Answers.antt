-- What is left of the proof of `supply::plan_by`.
use Rattle.std.proofs.Common.{ap, length, refl, subst, arith}
use Rattle.psy_plan.specs.Extents.{IsExtent}
use Rattle.psy_plan.specs.Steps.{graphing_by, sizing_by}
use Rattle.psy_plan.specs.Supplies.{meeting, supplying_by, supply_of}
use Rattle.psy_meaning.specs.KnownWays.{Listed}
use Rattle.psy_plan.proofs.Courses.{exit_memory}
use Rattle.psy_plan.proofs.SupplyLemmas.{are_rates, all_rates_small, all_intercepts_small, homes_of_graphs, supply_undrawn, supply_unsized, supply_unmet, supply_gives}
use Rattle.psy_plan.proofs.lemmas.Stopping.{exit_by}
use Rattle.psy_plan.proofs.supply.plan_by.Goals as goal

pub returns-in_err-graphs-clause-refused : goal.returns-in_err-graphs-clause-refused
returns-in_err-graphs-clause-refused c =
    let unit = c.args.unit.now in
    let ways = c.args.ways.now in
    exit_by (graphing_by unit ways.nexts).stops (supplying_by unit ways c.args.until).stops (supply_undrawn unit ways c.args.until) _ _ c.from_residual.ensures.1 c.in_err-graphs.ensures.refused

pub returns-in_err-sizes-clause-refused : goal.returns-in_err-sizes-clause-refused
returns-in_err-sizes-clause-refused c =
    let unit = c.args.unit.now in
    let ways = c.args.ways.now in
    exit_by (sizing_by unit (Listed ways) ways.nexts).stops (supplying_by unit ways c.args.until).stops (supply_unsized unit ways c.args.until c.in_ok-graphs.graphs c.in_ok-graphs.ensures.ok) _ _
    c.from_residual-in_err-sizes.ensures.1 c.in_err-sizes.ensures.refused

pub returns-in_err-lines-clause-refused : goal.returns-in_err-lines-clause-refused
returns-in_err-lines-clause-refused c = exit_memory (supplying_by c.args.unit.now c.args.ways.now c.args.until).stops _ c.from_residual-in_err-lines.ensures.1

pub returns-in_err-homes-clause-refused : goal.returns-in_err-homes-clause-refused
returns-in_err-homes-clause-refused c = exit_memory (supplying_by c.args.unit.now c.args.ways.now c.args.until).stops _ c.from_residual-in_err-homes.ensures.1

pub extent_of-requires-clause-count : goal.extent_of-requires-clause-count
extent_of-requires-clause-count c =
    omega (arith, ap length c.in_ok-homes.ensures, homes_of_graphs c.args.unit.now c.in_ok-graphs.graphs c.in_ok-graphs.ensures.ok.count, c.in_ok-lines.ensures.count)

pub extent_of-requires-clause-few : goal.extent_of-requires-clause-few
extent_of-requires-clause-few c = omega (arith, c.in_ok-lines.ensures.count, c.in_ok-graphs.ensures.ok.count, c.requires.bare.agent_limit)

pub extent_of-requires-clause-rates : goal.extent_of-requires-clause-rates
extent_of-requires-clause-rates c = all_rates_small c.in_ok-graphs.graphs c.in_ok-lines.lines c.in_ok-lines.ensures

pub extent_of-requires-clause-intercepts : goal.extent_of-requires-clause-intercepts
extent_of-requires-clause-intercepts c = all_intercepts_small c.in_ok-graphs.graphs c.in_ok-lines.lines c.in_ok-lines.ensures

pub returns-in_err-extent-clause-refused : goal.returns-in_err-extent-clause-refused
returns-in_err-extent-clause-refused c = exit_memory (supplying_by c.args.unit.now c.args.ways.now c.args.until).stops _ c.from_residual-in_err-extent.ensures.1

pub demand-requires-clause-few : goal.demand-requires-clause-few
demand-requires-clause-few c = omega (arith, c.in_ok-graphs.ensures.ok.count, c.requires.bare.agent_limit)

pub returns-in_err-demand-clause-refused : goal.returns-in_err-demand-clause-refused
returns-in_err-demand-clause-refused c =
    let unit = c.args.unit.now in
    let ways = c.args.ways.now in
    let graphs = c.in_ok-graphs.graphs in
    let lines = c.in_ok-lines.lines in
    let extent = c.in_ok-extent.extent in
    let looked = subst (λ homes. IsExtent unit.quantum homes lines c.args.until extent) c.in_ok-homes.ensures c.in_ok-extent.ensures in
    exit_by (meeting unit graphs c.length-top.result).stops (supplying_by unit ways c.args.until).stops
    (λ refusal stops. supply_unmet unit ways c.args.until graphs c.in_ok-graphs.ensures.ok c.in_ok-sizes.sizes lines extent c.in_ok-sizes.ensures.ok (are_rates graphs lines c.in_ok-lines.ensures) looked refusal
    (subst (λ top. (meeting unit graphs top).stops refusal) c.length-top.ensures stops)) _ _
    c.from_residual-in_err-demand.ensures.1 c.in_err-demand.ensures.refused

pub returns-clause-ok : goal.returns-clause-ok
returns-clause-ok c =
    let ways = c.args.ways.now in
    let graphs = c.in_ok-graphs.graphs in
    let lines = c.in_ok-lines.lines in
    let extent = c.in_ok-extent.extent in
    let looked = subst (λ homes. IsExtent c.args.unit.now.quantum homes lines c.args.until extent) c.in_ok-homes.ensures c.in_ok-extent.ensures in
    let supply = supply_of ways.nexts (record { graphs = graphs; sizes = c.in_ok-sizes.sizes; lines = lines; extent = extent }) in
    supply_gives c.args.unit.now ways c.args.until c.length-top.result supply _ c.in_ok-graphs.ensures.ok refl c.in_ok-sizes.ensures.ok (are_rates graphs lines c.in_ok-lines.ensures) looked c.length-top.ensures c.in_ok-demand.ensures.ok
