-- What is left of the proof of `costs::costs_of_calls`.
use Rattle.std.proofs.Common.{sym, arith}
use Rattle.psy_flow.proofs.CostRows.{cost_more}
use Rattle.psy_flow.proofs.costs.costs_of_calls.Goals as goal

pub loop-at-preserved : goal.loop-at-preserved
loop-at-preserved c =
    cost_more c.args.gauge c.args.functions.now c.loop-at.row c.loop-at.at c.index-functions-at.result c.most_of_function.result c.loop-at-test.true (omega (arith, c.loop-at-test.array_long)) (sym c.index-functions-at.is) c.loop-at.invariant c.most_of_function.ensures
