-- What is left of the proof of `listed::ways`.
use Rattle.std.proofs.Common.{◌≡◌, ◌<◌, [], ◌∷◌, length, length-append, get_or, sym, ap, subst, ◌∙◌, arith}
use Rattle.std.specs.Prelude.{Some, slice_get}
use Rattle.std.proofs.lemmas.Option.{slice_get-get_or}
use Rattle.psy_lists.proofs.lemmas.Places.{read_is}
use Rattle.psy_tree.specs.declared.unit.AgentDecl.{AgentDecl}
use Rattle.psy_meaning.specs.ListedWays.{AreLooks}
use Rattle.psy_flow.specs.Listed.{AreStatedPaths}
use Rattle.psy_flow.proofs.WayRows.{AllLooksAt, AllNextsAt, by_point, each_after}
use Rattle.psy_flow.proofs.listed.ways.Goals as goal

pub agents-preserved : goal.agents-preserved
agents-preserved c =
    let unit = c.args.unit.now in
    let number = c.agents.number in
    let kept = c.agents.invariant in
    let read = c.index-as_slice-number.result in
    let own = c.in_ok-own.own in
    let is : read ≡ get_or unit.agents number read = c.index-as_slice-number.is ∙ ap (λ xs. get_or xs number read) c.as_slice.ensures in
    let less : number < length unit.agents = omega (arith, c.agents-test.true, c.agents.auto.number-end, c.len-number-end.ensures) in
    let here : slice_get unit.agents number ≡ Some read = slice_get-get_or unit.agents number read less ∙ ap Some (sym is) in
    let are : AreStatedPaths unit.functions read own = c.in_ok-own.ensures unit number (c.requires.text, here) (sym c.len-variables.ensures) in
    let all : (agent : AgentDecl) → slice_get unit.agents number ≡ Some agent → AreStatedPaths unit.functions agent own =
    λ agent at. subst (λ a. AreStatedPaths unit.functions a own) (read_is unit.agents number read agent less is at) are in
    record {
      nexts = omega (arith, ap length c.in_ok-push.ensures, length-append c.agents.nexts (own.nexts ∷ []), kept.nexts);
      looks = omega (arith, ap length c.in_ok-push-2.ensures, length-append c.agents.looks (own.looks ∷ []), kept.looks);
      each_next = each_after (AllNextsAt unit) c.agents.nexts _ own.nexts number c.in_ok-push.ensures kept.nexts kept.each_next (λ agent at. (all agent at).nexts);
      each_look = each_after (AllLooksAt unit) c.agents.looks _ own.looks number c.in_ok-push-2.ensures kept.looks kept.each_look (λ agent at. (all agent at).looks);
    }

pub returns : goal.returns
returns c =
    let unit = c.args.unit.now in
    let kept = c.agents.invariant in
    record {
      nexts = record {
        count = omega (arith, kept.nexts, c.agents-test.false, c.agents.auto.number-end, c.len-number-end.ensures);
        each = λ number agent list at also. kept.each_next number list also agent at;
      };
      looks = by_point unit (AreLooks unit.functions) c.agents.looks (omega (arith, kept.looks, c.agents-test.false, c.agents.auto.number-end, c.len-number-end.ensures)) kept.each_look;
      sends = c.in_ok-sends.ensures;
      delays = c.in_ok-delays.ensures;
    }
