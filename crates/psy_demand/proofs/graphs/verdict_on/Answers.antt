-- What is left of the proof of `graphs::verdict_on`.
use Rattle.psy_meaning.specs.Demand.{edges_on}
use Rattle.psy_demand.specs.Criterion.{edges_of}
use Rattle.psy_demand.proofs.Verdicts.{verdict_on}
use Rattle.psy_demand.proofs.graphs.verdict_on.Goals as goal

pub returns : goal.returns
returns c =
    verdict_on (edges_on c.args.homes.now c.args.processor (edges_of c.args.graphs.now)) c.in_ok-demands.demands c.args.quantum c.args.top c.feasible.result c.in_ok-demands.ensures.demand c.feasible.ensures
