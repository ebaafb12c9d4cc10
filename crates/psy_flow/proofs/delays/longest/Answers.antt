-- What is left of the proof of `delays::longest`.
use Rattle.std.proofs.Common.{◌≡◌, ◌<◌, max, get_or, length, take, sym, ap, ◌∙◌, arith}
use Rattle.std.proofs.lemmas.List.{take_all}
use Rattle.psy_meaning.specs.Sendings.{sendings_in}
use Rattle.psy_flow.specs.Listed.{delay_among}
use Rattle.psy_flow.proofs.DelaysAmong.{delay_by_all, agent_more}
use Rattle.psy_flow.proofs.delays.longest.Goals as goal

pub agents-preserved : goal.agents-preserved
agents-preserved c =
    let unit = c.args.unit.now in
    let stream = c.args.stream in
    let i = c.agents.agent-index in
    let agent = c.agent-item.result in
    let all = c.as_slice-agent-items.ensures in
    let less : i < length unit.agents = omega (arith, c.agents-test.true, ap length all) in
    let is : agent ≡ get_or unit.agents i agent = c.agent-item.is ∙ ap (λ agents. get_or agents i agent) all in
    c.max-greatest.ensures
    ∙ ap (λ n. max n c.delay_in.result) c.agents.invariant
    ∙ ap (max (delay_by_all unit stream (take i unit.agents))) (c.delay_in.ensures ∙ ap (λ stmts. delay_among unit stream (sendings_in stmts)) c.as_slice.ensures ∙ ap (λ a. delay_among unit stream (sendings_in a.stmts)) is)
    ∙ sym (agent_more unit stream unit.agents i agent less)

pub returns : goal.returns
returns c =
    let unit = c.args.unit.now in
    c.agents.invariant ∙ ap (delay_by_all unit c.args.stream) (take_all c.agents.agent-index unit.agents (omega (arith, c.agents-test.false, ap length c.as_slice-agent-items.ensures)))
