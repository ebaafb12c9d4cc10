-- What is left of the proof of `code_lists::sends_of`.
use Rattle.std.proofs.Common.{◌≡◌, ℕ, false, List, [], ◌∷◌, length, replicate, length-append, get_or, sym, ap, subst, ◌∙◌, arith}
use Rattle.std.proofs.lemmas.List.{get_or_default}
use Rattle.psy_code.specs.declared.instr.Instr.{Instr}
use Rattle.psy_tree.specs.declared.unit.AgentDecl.{AgentDecl}
use Rattle.psy_tree.specs.Parts.{agent_at, no_agent}
use Rattle.psy_meaning.specs.CodeWays.{AreCodeSends, budget_of, place_of}
use Rattle.psy_flow.specs.CodeLists.{HaveMostsFrom}
use Rattle.psy_flow.proofs.Judged.{one_more}
use Rattle.psy_flow.proofs.WayRows.{each_after}
use Rattle.psy_flow.proofs.code_lists.sends_of.Goals as goal

pub points-preserved : goal.points-preserved
points-preserved c =
    let unit = c.args.unit.now in
    let code = c.args.code.now in
    let number = c.args.number in
    let point = c.points.point in
    let kept = c.points.invariant in
    let own = c.in_ok-own.own in
    let instrs = c.as_slice-in-points.ensures in
    let place : ℕ = place_of code number point in
    let budget : ℕ = budget_of unit number point in
    let are : AreCodeSends code.instrs place budget own =
    subst (λ b. AreCodeSends code.instrs place b own) c.budget_at.ensures
    (subst (λ p. AreCodeSends code.instrs p c.budget_at.result own) c.place_at.ensures
    (subst (λ is. AreCodeSends is c.place_at.result c.budget_at.result own) instrs c.in_ok-own.ensures.sends)) in
    let have : HaveMostsFrom code.instrs place budget (length unit.streams) =
    subst (λ b. HaveMostsFrom code.instrs place b (length unit.streams)) c.budget_at.ensures
    (subst (λ p. HaveMostsFrom code.instrs p c.budget_at.result (length unit.streams)) c.place_at.ensures
    (subst (λ is. HaveMostsFrom is c.place_at.result c.budget_at.result (length unit.streams)) instrs c.in_ok-own.ensures.judged)) in
    record {
      marks = c.in_ok-own.ensures.clear ∙ ap (λ (is : List Instr). replicate (length is) false) instrs;
      row = c.sends_from.ensures.count ∙ ap length instrs;
      sends = omega (arith, ap length c.in_ok-push.ensures, length-append c.points.sends (own ∷ []), kept.sends);
      each = each_after (λ p. AreCodeSends code.instrs (place_of code number p) (budget_of unit number p)) c.points.sends _ own point c.in_ok-push.ensures kept.sends kept.each are;
      judged = one_more (λ p. HaveMostsFrom code.instrs (place_of code number p) (budget_of unit number p) (length unit.streams)) point kept.judged have;
    }

pub returns-clause-sends : goal.returns-clause-sends
returns-clause-sends c =
    let unit = c.args.unit.now in
    let number = c.args.number in
    let kept = c.points.invariant in
    let read = c.index-as_slice-number.result in
    let is : read ≡ get_or unit.agents number read = c.index-as_slice-number.is ∙ ap (λ (xs : List AgentDecl). get_or xs number read) c.as_slice.ensures in
    let own : agent_at unit number ≡ read = get_or_default unit.agents number no_agent read c.requires.number ∙ sym is in
    let all : c.points.point ≡ length (agent_at unit number).points = omega (arith, c.points-test.false, c.points.auto.point-end, c.len-point-end.ensures, ap (λ (a : AgentDecl). length a.points) own) in
    record { count = kept.sends ∙ all; each = kept.each }

pub returns-clause-judged : goal.returns-clause-judged
returns-clause-judged c =
    let unit = c.args.unit.now in
    let number = c.args.number in
    let kept = c.points.invariant in
    let read = c.index-as_slice-number.result in
    let is : read ≡ get_or unit.agents number read = c.index-as_slice-number.is ∙ ap (λ (xs : List AgentDecl). get_or xs number read) c.as_slice.ensures in
    let own : agent_at unit number ≡ read = get_or_default unit.agents number no_agent read c.requires.number ∙ sym is in
    let all : c.points.point ≡ length (agent_at unit number).points = omega (arith, c.points-test.false, c.points.auto.point-end, c.len-point-end.ensures, ap (λ (a : AgentDecl). length a.points) own) in
    λ p less. kept.judged p (omega (arith, less, all))
