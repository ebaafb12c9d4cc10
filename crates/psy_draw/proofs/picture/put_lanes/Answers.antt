-- What is left of the proof of `picture::put_lanes`.
use Rattle.std.proofs.Common.{rules, ◌≡◌, ◌+◌, ◌++◌, get_or, sym, ap, ◌∙◌, arith}
use Rattle.psy_draw.specs.Drawing.{drawn_lane, stacked}
use Rattle.psy_draw.specs.Scales.{place_by}
use Rattle.psy_draw.specs.Shapes.{height_of}
use Rattle.psy_draw.proofs.Lanes.{stacked_step}
use Rattle.psy_draw.proofs.picture.put_lanes.Goals as goal

pub loop-lane-preserved : goal.loop-lane-preserved
loop-lane-preserved c =
    let item : get_or c.args.lanes.now c.loop-lane.lane-index c.lane-item.result ≡ c.lane-item.result = search rules in
    let place = place_by c.args.scale.now in
    record {
      low = omega (arith, c.loop-lane.invariant.low, c.height-top.ensures.low);
      drawn = stacked_step place c.args.tells c.args.lanes.now c.loop-lane.lane-index c.lane-item.result c.args.left c.loop-lane.top (c.loop-lane.top + c.height-top.result)
          (c.args.page.now ++ stacked place c.args.tells c.args.left 56 c.args.lanes.now) c.loop-lane.page c.draw_lane.new.page c.loop-lane-test.true c.loop-lane.invariant.drawn
          (c.in_ok-draw_lane.ensures ∙ sym (ap (λ l. c.loop-lane.page ++ drawn_lane place c.args.tells c.args.left c.loop-lane.top l) item))
          (ap (λ h. c.loop-lane.top + h) (c.height-top.ensures.high ∙ sym (ap (λ l. height_of l.shape) item)));
    }
