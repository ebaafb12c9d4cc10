-- What is left of the proof of `picture::column_count`.
use Rattle.std.proofs.Common.{rules, ◌≡◌, ◌-◌, ◌^◌, length, get_or, sym, ap, ◌∙◌}
use Rattle.psy_draw.specs.Shapes.{columns_of}
use Rattle.psy_draw.proofs.Lanes.{columns_step}
use Rattle.psy_draw.proofs.picture.column_count.Goals as goal

pub loop-lane-preserved : goal.loop-lane-preserved
loop-lane-preserved c =
    let item : get_or c.args.lanes.now c.loop-lane.lane-index c.lane-item.result ≡ c.lane-item.result = search rules in
    columns_step c.args.lanes.now c.loop-lane.lane-index c.lane-item.result (2 ^ 64 - 1) c.loop-lane.count (length c.columns.result.now) c.saturating_add-count.result c.loop-lane-test.true
    c.loop-lane.invariant (ap length c.columns.ensures ∙ sym (ap (λ l. length (columns_of l.shape)) item)) c.saturating_add-count.ensures
