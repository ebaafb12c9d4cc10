-- What is left of the proof of `lists::weights_of_all`.
use Rattle.std.proofs.Common.{◌<◌, subst, length, arith}
use Rattle.std.proofs.lemmas.List.{take_all}
use Rattle.psy_demand.specs.Criterion.{AreEach, AreWeights}
use Rattle.psy_demand.proofs.lemmas.Eaches.{grown}
use Rattle.psy_demand.proofs.lists.weights_of_all.Goals as goal

pub graphs-preserved : goal.graphs-preserved
graphs-preserved c =
    let graphs = c.args.graphs.now in
    let item = c.graph-item.result in
    let i = c.graphs.graph-index in
    let within : i < length graphs = omega (arith, c.graphs-test.true) in
    grown (AreWeights c.args.top) graphs c.graphs.lists _ item c.in_ok-list.list i within c.graph-item.is c.in_ok-push.ensures c.graphs.invariant c.in_ok-list.ensures.list

pub returns-clause-lists : goal.returns-clause-lists
returns-clause-lists c =
    let graphs = c.args.graphs.now in
    subst (λ gs. AreEach (AreWeights c.args.top) gs c.graphs.lists) (take_all c.graphs.graph-index graphs (omega (arith, c.graphs-test.false))) c.graphs.invariant
