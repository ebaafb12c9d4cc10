-- What is left of the proof of `frame::bottom_of`.
use Rattle.std.proofs.Common.{rules, ◌≡◌, get_or, sym, ap, ◌∙◌, arith}
use Rattle.psy_draw.specs.Shapes.{height_of}
use Rattle.psy_draw.proofs.Lanes.{heights_step}
use Rattle.psy_draw.proofs.frame.bottom_of.Goals as goal

pub loop-lane-preserved : goal.loop-lane-preserved
loop-lane-preserved c =
    let item : get_or c.args.lanes.now c.loop-lane.lane-index c.lane-item.result ≡ c.lane-item.result = search rules in
    record {
      high = heights_step c.args.lanes.now c.loop-lane.lane-index c.lane-item.result c.loop-lane.bottom c.height-bottom.result c.loop-lane-test.true c.loop-lane.invariant.high
          (c.height-bottom.ensures.high ∙ sym (ap (λ l. height_of l.shape) item));
      low = omega (arith, c.loop-lane.invariant.low, c.height-bottom.ensures.low);
    }
