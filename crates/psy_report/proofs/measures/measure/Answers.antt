-- What is left of the proof of `measures::measure`.
use Rattle.std.proofs.Common.{◌^◌, ◌<◌, ◌≤◌, arith}
use Rattle.std.specs.List.{All}
use Rattle.psy_demand.specs.Criterion.{AreWeights}
use Rattle.psy_plan.specs.Steps.{graphing, sizing, windowing}
use Rattle.psy_plan.specs.Tables.{IsLine}
use Rattle.psy_report.specs.Measured.{IsUnmeasured, by_graphs, by_lists, by_sizes}
use Rattle.psy_plan.proofs.lemmas.Stopping.{exit_by}
use Rattle.psy_demand.proofs.lemmas.Eaches.{all_of}
use Rattle.psy_report.proofs.OwnSizes.{sizes_of, unsized_of}
use Rattle.psy_report.proofs.measures.measure.Goals as goal

pub returns-in_err-graphs-clause-refused : goal.returns-in_err-graphs-clause-refused
returns-in_err-graphs-clause-refused c =
    let unit = c.args.unit.now in
    exit_by (graphing unit).stops (IsUnmeasured unit c.args.top) (λ refusal. by_graphs) _ _ c.from_residual-in_err-graphs.ensures.1 c.in_err-graphs.ensures.refused

pub returns-in_err-sizes-clause-refused : goal.returns-in_err-sizes-clause-refused
returns-in_err-sizes-clause-refused c =
    let unit = c.args.unit.now in
    let ways = c.in_ok-ways.ways in
    exit_by (sizing unit ways.nexts).stops (IsUnmeasured unit c.args.top)
    (λ refusal stops. by_sizes (unsized_of unit ways.nexts (λ others follow. c.one_list.ensures.nexts unit ways.nexts others c.in_ok-ways.ensures.nexts follow) refusal stops)) _ _
    c.from_residual-in_err-sizes.ensures.1 c.in_err-sizes.ensures.refused

pub returns-in_err-lists-clause-refused : goal.returns-in_err-lists-clause-refused
returns-in_err-lists-clause-refused c =
    let unit = c.args.unit.now in
    let graphs = c.in_ok-graphs.graphs in
    exit_by (windowing graphs c.args.top).stops (IsUnmeasured unit c.args.top) (λ refusal. by_lists graphs c.in_ok-graphs.ensures.ok) _ _
    c.from_residual-in_err-lists.ensures.1 c.in_err-lists.ensures.refused

pub returns-clause-measures : goal.returns-clause-measures
returns-clause-measures c =
    let unit = c.args.unit.now in
    let nexts = c.in_ok-ways.ways.nexts in
    record {
      costs = c.in_ok-costs.ensures;
      sizes = sizes_of unit nexts (λ others follow. c.one_list.ensures.nexts unit nexts others c.in_ok-ways.ensures.nexts follow) c.in_ok-sizes.sizes c.in_ok-sizes.ensures.ok.0;
      graphs = c.in_ok-graphs.graphs;
      drawn = c.in_ok-graphs.ensures.ok;
      lines = c.in_ok-lines.ensures;
      lists = c.in_ok-lists.ensures.lists;
    }

pub returns-clause-rates : goal.returns-clause-rates
returns-clause-rates c = all_of IsLine (λ line. line.rate ≤ 2 ^ 40) (λ graph line is. is.rate) c.in_ok-graphs.graphs c.in_ok-lines.lines c.in_ok-lines.ensures

pub returns-clause-parts : goal.returns-clause-parts
returns-clause-parts c =
    all_of (AreWeights c.args.top) (All (λ part. part < 2 ^ 50)) (λ graph list are. are.small) c.in_ok-graphs.graphs c.in_ok-lists.lists
    c.in_ok-lists.ensures.lists

pub returns-clause-count : goal.returns-clause-count
returns-clause-count c = omega (arith, c.in_ok-lists.ensures.lists.count, c.in_ok-graphs.ensures.ok.count)
