-- What is left of the proof of `worst_costs::worsts`.
use Rattle.std.proofs.Common.{◌≡◌, ◌<◌, ℕ, List, [], ◌∷◌, None, Some, length, length-append, get_or, take, slice_get, sym, ap, subst, ◌∙◌, arith}
use Rattle.std.proofs.lemmas.Option.{slice_get-get_or}
use Rattle.psy_lists.proofs.lemmas.Places.{read_is}
use Rattle.psy_tree.specs.declared.unit.AgentDecl.{AgentDecl}
use Rattle.psy_flow.specs.declared.gauge.Gauge.TheVariants as gauge
use Rattle.psy_flow.specs.Agents.{IsAgentOf}
use Rattle.psy_flow.specs.Costs.{AreCosts, AreCounts}
use Rattle.psy_flow.specs.Tops.{called, capped_from}
use Rattle.psy_flow.proofs.WayRows.{each_after}
use Rattle.psy_flow.proofs.WorstCosts.{costs_of_agent}
use Rattle.psy_flow.proofs.worst_costs.worsts.Goals as goal

pub agents-preserved : goal.agents-preserved
agents-preserved c =
    let unit = c.args.unit.now in
    let number = c.agents.number in
    let kept = c.agents.invariant in
    let read = c.index-as_slice-number.result in
    let own = c.in_ok-own.own in
    let row : List ℕ = take (length c.as_slice-functions.result.now) c.costs_of_calls-calls.result in
    let is : read ≡ get_or unit.agents number read = c.index-as_slice-number.is ∙ ap (λ xs. get_or xs number read) c.as_slice.ensures in
    let less : number < length unit.agents = omega (arith, c.agents-test.true, c.agents.auto.number-end, c.len-number-end.ensures) in
    let here : slice_get unit.agents number ≡ Some read = slice_get-get_or unit.agents number read less ∙ ap Some (sym is) in
    let its : IsAgentOf unit number read = (c.requires.text, here) in
    let are : AreCosts unit read own =
    costs_of_agent unit number read row own its (c.known.ensures unit number read its) (c.costs_of_calls-calls.ensures ∙ ap (capped_from gauge.Steps []) c.as_slice-functions.ensures)
    (subst (λ stmts. AreCounts gauge.Steps None (called row) stmts own) c.as_slice-in-agents.ensures c.in_ok-own.ensures) in
    let all : (agent : AgentDecl) → slice_get unit.agents number ≡ Some agent → AreCosts unit agent own =
    λ agent at. subst (λ a. AreCosts unit a own) (read_is unit.agents number read agent less is at) are in
    record {
      count = omega (arith, ap length c.in_ok-push.ensures, length-append c.agents.costs (own ∷ []), kept.count);
      each = each_after (λ number list. (agent : AgentDecl) → slice_get unit.agents number ≡ Some agent → AreCosts unit agent list) c.agents.costs _ own number c.in_ok-push.ensures kept.count kept.each all;
    }

pub returns : goal.returns
returns c =
    let kept = c.agents.invariant in
    record {
      count = omega (arith, kept.count, c.agents-test.false, c.agents.auto.number-end, c.len-number-end.ensures);
      each = λ number agent list at also. kept.each number list also agent at;
    }
