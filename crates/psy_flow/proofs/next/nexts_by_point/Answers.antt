-- What is left of the proof of `next::nexts_by_point`.
use Rattle.std.proofs.Common.{[], ◌∷◌, length, length-append, ap, arith}
use Rattle.psy_flow.proofs.WayRows.{NextsAt, each_after}
use Rattle.psy_flow.proofs.next.nexts_by_point.Goals as goal

pub points-preserved : goal.points-preserved
points-preserved c =
    let agent = c.args.agent.now in
    let point = c.points.point in
    let kept = c.points.invariant in
    let list = c.in_ok-next.next in
    record {
      count = omega (arith, ap length c.in_ok-push.ensures, length-append c.points.lists (list ∷ []), kept.count);
      each = each_after (NextsAt agent) c.points.lists _ list point c.in_ok-push.ensures kept.count kept.each
          (λ unit number its. (c.in_ok-next.ensures.rising, c.in_ok-next.ensures.next unit number its));
    }

pub returns : goal.returns
returns c unit number its =
    let kept = c.points.invariant in
    record {
      length = omega (arith, kept.count, c.points-test.false, c.points.auto.point-end, c.len-point-end.ensures);
      rise = λ point list at. (kept.each point list at unit number its).0;
      each = λ point list at. (kept.each point list at unit number its).1;
    }
