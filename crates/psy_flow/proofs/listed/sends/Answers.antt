-- What is left of the proof of `listed::sends`.
use Rattle.std.proofs.Common.{◌≡◌, ◌<◌, [], ◌∷◌, length, length-append, get_or, sym, ap, subst, ◌∙◌, arith}
use Rattle.std.specs.Prelude.{Some, slice_get}
use Rattle.std.proofs.lemmas.Option.{slice_get-get_or}
use Rattle.psy_lists.proofs.lemmas.Places.{read_is}
use Rattle.psy_tree.specs.declared.unit.AgentDecl.{AgentDecl}
use Rattle.psy_meaning.specs.ListedWays.{AreSends}
use Rattle.psy_flow.specs.Listed.{AreOf}
use Rattle.psy_flow.proofs.WayRows.{AllSendsAt, by_point, each_after}
use Rattle.psy_flow.proofs.listed.sends.Goals as goal

pub agents-preserved : goal.agents-preserved
agents-preserved c =
    let unit = c.args.unit.now in
    let number = c.agents.number in
    let kept = c.agents.invariant in
    let read = c.index-as_slice-number.result in
    let own = c.in_ok-own.own in
    let is : read ≡ get_or unit.agents number read = c.index-as_slice-number.is ∙ ap (λ xs. get_or xs number read) c.as_slice.ensures in
    let less : number < length unit.agents = omega (arith, c.agents-test.true, c.agents.auto.number-end, c.len-number-end.ensures) in
    let here : slice_get unit.agents number ≡ Some read = slice_get-get_or unit.agents number read less ∙ ap Some (sym is) in
    let are : AreOf read (AreSends unit.functions read) own = c.in_ok-own.ensures unit number (c.requires.text, here) (sym c.len-streams.ensures) in
    let all : (agent : AgentDecl) → slice_get unit.agents number ≡ Some agent → AreOf agent (AreSends unit.functions agent) own =
    λ agent at. subst (λ a. AreOf a (AreSends unit.functions a) own) (read_is unit.agents number read agent less is at) are in
    record {
      sends = omega (arith, ap length c.in_ok-push.ensures, length-append c.agents.sends (own ∷ []), kept.sends);
      each = each_after (AllSendsAt unit) c.agents.sends _ own number c.in_ok-push.ensures kept.sends kept.each all;
    }

pub returns : goal.returns
returns c =
    let unit = c.args.unit.now in
    let kept = c.agents.invariant in
    by_point unit (AreSends unit.functions) c.agents.sends (omega (arith, kept.sends, c.agents-test.false, c.agents.auto.number-end, c.len-number-end.ensures)) kept.each
