-- What is left of the proof of `sums::take_in`.
use Rattle.std.proofs.Common.{subst, sym}
use Rattle.psy_demand.specs.Criterion.{AreWeights}
use Rattle.psy_demand.proofs.OneMore.{taken_none, taken_own}
use Rattle.psy_demand.proofs.sums.take_in.Goals as goal

pub returns-in_ok-row : goal.returns-in_ok-row
returns-in_ok-row c =
    let graph = c.args.graph.now in
    let weights = subst (AreWeights c.args.top graph) (sym c.as_slice.ensures) c.in_ok-row.ensures in
    taken_own graph c.args.own c.args.top c.as_slice.result.now c.args.sums.now c.add.new.sums c.if-own.true c.requires.edges c.requires.cells weights c.requires.count c.add.ensures.count c.add.ensures.sums

pub returns-else-own : goal.returns-else-own
returns-else-own c = taken_none c.args.graph.now c.args.own c.args.top c.args.sums.now c.if-own.false
