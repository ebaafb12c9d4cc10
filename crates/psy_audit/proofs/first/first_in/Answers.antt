-- What is left of the proof of `first::first_in`.
use Rattle.std.proofs.Common.{◌∙◌, ap, sym, take}
use Rattle.psy_audit.specs.Rows.{first_in, sooner_or, waits_at}
use Rattle.psy_audit.specs.Waits.{pending_in}
use Rattle.psy_audit.proofs.Sooner.{agents_more}
use Rattle.psy_audit.proofs.first.first_in.Goals as goal

pub agents-preserved : goal.agents-preserved
agents-preserved c =
    let unit = c.args.plan.now.unit in
    let rows = c.args.rows.now in
    let cycle = c.args.cycle in
    let order = c.args.order.now in
    let i = c.agents.agent-index in
    c.sooner-first.ensures ∙ ap (λ o. sooner_or o c.first_of.result) c.agents.invariant
    ∙ ap (sooner_or (first_in unit rows c.args.processor cycle (take i order))) c.first_of.ensures
    ∙ sym (agents_more unit c.args.processor (λ agent. pending_in cycle (waits_at rows agent)) order i _ c.agents-test.true)
