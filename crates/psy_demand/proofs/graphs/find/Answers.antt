-- What is left of the proof of `graphs::find`.
use Rattle.std.proofs.Common.{◌+◌, subst, sym}
use Rattle.psy_demand.specs.Criterion.{edges_of}
use Rattle.psy_demand.specs.Findings.{IsFoundOf}
use Rattle.psy_demand.proofs.Verdicts.{found_more}
use Rattle.psy_demand.proofs.graphs.find.Goals as goal

pub loop-processor-preserved : goal.loop-processor-preserved
loop-processor-preserved c =
    let homes = c.args.homes.now in
    let graphs = edges_of c.args.graphs.now in
    let processor = c.loop-processor.processor in
    subst (IsFoundOf homes graphs c.args.quantum c.args.top (processor + 1)) (sym c.joined-found.ensures)
    (found_more homes graphs c.args.quantum c.args.top processor c.loop-processor.found c.in_ok-verdict.verdict c.loop-processor.invariant c.in_ok-verdict.ensures)
