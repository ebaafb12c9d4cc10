-- What is left of the proof of `sending::sends_by_point`.
use Rattle.std.proofs.Common.{◌≡◌, ◌+◌, ◌∙◌, [], false, length, sym, ap, subst, arith}
use Rattle.std.specs.Prelude.{replicate}
use Rattle.std.proofs.lemmas.List.{length-replicate}
use Rattle.psy_lists.proofs.lemmas.Places.{written_back}
use Rattle.psy_meaning.specs.Flow.{IsMostSends}
use Rattle.psy_meaning.specs.ListedWays.{AreSends}
use Rattle.psy_flow.specs.Listed.{AreOf, AreSendsUpTo}
use Rattle.psy_flow.specs.Texts.{marked_at, streams_in}
use Rattle.psy_flow.proofs.Cuts.{one_most}
use Rattle.psy_flow.proofs.Longer.{empty_are, same_are}
use Rattle.psy_flow.proofs.SendsUpTo.{all_ends, none_before}
use Rattle.psy_flow.proofs.sending.sends_by_point.Goals as goal

pub points-init : goal.points-init
points-init c =
    let agent = c.args.agent.now in
    let empty : c.in_ok-lists.lists.items ≡ replicate (length agent.points) [] = c.in_ok-lists.ensures ∙ ap (λ n. replicate n []) c.len.ensures in
    record {
      count = ap length empty ∙ length-replicate (length agent.points) [];
      sends = λ unit number its same. empty_are agent (λ point. AreSendsUpTo (IsMostSends unit.functions agent point) 1 0) c.in_ok-lists.lists.items empty
          (λ point. none_before (IsMostSends unit.functions agent point) (one_most unit.functions agent point) 1
          (λ way sent. (c.nexts.ensures.within unit number agent its point way.to (c.named.ensures.sends unit number agent point way its sent).1).0));
    }

pub add_sends-requires-clause-sent : goal.add_sends-requires-clause-sent
add_sends-requires-clause-sent c = c.as_slice-in-points.ensures ∙ c.in_ok-sent.ensures ∙ ap (λ stmts. marked_at (replicate c.args.streams false) (streams_in stmts)) c.as_slice.ensures

pub points-preserved : goal.points-preserved
points-preserved c =
    let agent = c.args.agent.now in
    let to = c.points.to in
    let lists = c.points.lists in
    let value = c.as_mut_slice.ensures.value in
    let as_many = c.add_sends.ensures.as_many ∙ ap length value in
    let back = written_back lists.items c.add_sends.new.lists lists.len (omega (arith, lists.ok)) as_many in
    record {
      count = ap length back ∙ as_many ∙ c.points.invariant.count;
      sends = λ unit number its same. subst (AreOf agent (λ point. AreSendsUpTo (IsMostSends unit.functions agent point) (to + 1) 0)) (sym back)
          (c.in_ok-add_sends.ensures.sends unit number its same
          (subst (AreOf agent (λ point. AreSendsUpTo (IsMostSends unit.functions agent point) to 0)) (sym value) (c.points.invariant.sends unit number its same)));
    }

pub returns : goal.returns
returns c unit number its same =
    let agent = c.args.agent.now in
    let to = c.points.to in
    subst (AreOf agent (AreSends unit.functions agent)) (sym c.from_vec.ensures)
    (same_are agent (λ point. AreSendsUpTo (IsMostSends unit.functions agent point) to 0) (AreSends unit.functions agent) c.points.lists.items
    (λ point list less was.
    let (rises, each) = all_ends (IsMostSends unit.functions agent point) (one_most unit.functions agent point) to list
    (λ way sent. omega (arith, (c.nexts.ensures.within unit number agent its point way.to (c.named.ensures.sends unit number agent point way its sent).1).1, c.points-test.false, c.len-to-end.ensures)) was in
    record { rise = rises; each = each })
    (c.points.invariant.sends unit number its same))
