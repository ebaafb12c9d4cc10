-- What is left of the proof of `starts::starts`.
use Rattle.std.proofs.Common.{◌≡◌, length, sym, subst, arith}
use Rattle.psy_flow.specs.CodeLists.{AreStartsUpTo}
use Rattle.psy_flow.proofs.StartPlaces.{all_starts, next_agent, starts_none}
use Rattle.psy_flow.proofs.starts.starts.Goals as goal

pub agents-init : goal.agents-init
agents-init c = subst (AreStartsUpTo c.args.code.now 0 0) (sym c.new-starts.ensures) (starts_none c.args.code.now)

pub agents-preserved : goal.agents-preserved
agents-preserved c = next_agent c.args.code.now c.agents.agent _ c.in_ok-add_starts.ensures

pub returns : goal.returns
returns c =
    let code = c.args.code.now in
    let all : c.agents.agent ≡ length code.agents = omega (arith, c.agents-test.false, c.agents.auto.agent-end, c.len-agent-end.ensures) in
    all_starts code c.agents.starts (subst (λ n. AreStartsUpTo code n 0 c.agents.starts) all c.agents.invariant)
