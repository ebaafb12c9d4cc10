-- What is left of the proof of `code_lists::all_sends`.
use Rattle.std.proofs.Common.{◌≡◌, [], ◌∷◌, length, length-append, ap, ◌∙◌, arith}
use Rattle.psy_tree.specs.Parts.{agent_at}
use Rattle.psy_meaning.specs.CodeWays.{AreCodeSends, budget_of, place_of}
use Rattle.psy_flow.specs.CodeLists.{HaveMostsOf}
use Rattle.psy_flow.specs.Listed.{AreOf}
use Rattle.psy_flow.proofs.CodeRows.{by_number}
use Rattle.psy_flow.proofs.Judged.{one_more}
use Rattle.psy_flow.proofs.WayRows.{each_after}
use Rattle.psy_flow.proofs.code_lists.all_sends.Goals as goal

pub agents-preserved : goal.agents-preserved
agents-preserved c =
    let unit = c.args.unit.now in
    let code = c.args.code.now in
    let number = c.agents.number in
    let kept = c.agents.invariant in
    let own = c.in_ok-own.own in
    record {
      marks = c.in_ok-own.ensures.clear;
      row = c.sends_of.ensures.count;
      sends = omega (arith, ap length c.in_ok-push.ensures, length-append c.agents.sends (own ∷ []), kept.sends);
      each = each_after (λ n. AreOf (agent_at unit n) (λ point. AreCodeSends code.instrs (place_of code n point) (budget_of unit n point))) c.agents.sends _ own number c.in_ok-push.ensures kept.sends kept.each c.in_ok-own.ensures.sends;
      judged = one_more (HaveMostsOf unit code) number kept.judged c.in_ok-own.ensures.judged;
    }

pub returns-clause-sends : goal.returns-clause-sends
returns-clause-sends c =
    let unit = c.args.unit.now in
    let code = c.args.code.now in
    let kept = c.agents.invariant in
    let all : c.agents.number ≡ length unit.agents = omega (arith, c.agents-test.false, c.agents.auto.number-end, c.len-number-end.ensures) in
    by_number unit (λ n point. AreCodeSends code.instrs (place_of code n point) (budget_of unit n point)) c.agents.sends (kept.sends ∙ all) kept.each

pub returns-clause-judged : goal.returns-clause-judged
returns-clause-judged c n less = c.agents.invariant.judged n (omega (arith, less, c.agents-test.false, c.agents.auto.number-end, c.len-number-end.ensures))
