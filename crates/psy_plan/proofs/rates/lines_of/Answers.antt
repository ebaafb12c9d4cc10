-- What is left of the proof of `rates::lines_of`.
use Rattle.std.proofs.Common.{◌≡◌, ◌∙◌, ◌<◌, ap, subst, get_or, length, arith}
use Rattle.std.proofs.lemmas.List.{take_all}
use Rattle.psy_demand.specs.Criterion.{AreEach}
use Rattle.psy_plan.specs.Tables.{IsLine}
use Rattle.psy_demand.proofs.lemmas.Eaches.{grown}
use Rattle.psy_plan.proofs.rates.lines_of.Goals as goal

pub graphs-preserved : goal.graphs-preserved
graphs-preserved c =
    let graphs = c.args.graphs.now in
    let item = c.graph-item.result in
    let i = c.graphs.graph-index in
    let within : i < length graphs = omega (arith, c.graphs-test.true, ap length c.as_slice-graph-items.ensures) in
    let read : item ≡ get_or graphs i item = c.graph-item.is ∙ ap (λ gs. get_or gs i item) c.as_slice-graph-items.ensures in
    grown IsLine graphs c.graphs.lines _ item c.in_ok-line.line i within read c.in_ok-push.ensures c.graphs.invariant c.in_ok-line.ensures

pub returns : goal.returns
returns c =
    let graphs = c.args.graphs.now in
    subst (λ gs. AreEach IsLine gs c.graphs.lines)
    (take_all c.graphs.graph-index graphs (omega (arith, c.graphs-test.false, ap length c.as_slice-graph-items.ensures))) c.graphs.invariant
