-- What is left of the proof of `found::own_row`.
use Rattle.std.proofs.Common.{[], ◌∷◌, length, length-append, ap, arith}
use Rattle.psy_flow.specs.Bits.{IsOwn}
use Rattle.psy_flow.proofs.WayRows.{each_after}
use Rattle.psy_flow.proofs.found.own_row.Goals as goal

pub places-preserved : goal.places-preserved
places-preserved c =
    let instrs = c.args.instrs.now in
    let kept = c.places.invariant in
    record {
      count = omega (arith, ap length c.in_ok-push.ensures.ok, length-append c.places.row (c.own_cell.result ∷ []), kept.count);
      each = each_after (IsOwn instrs c.args.sought c.args.first) c.places.row _ c.own_cell.result c.places.place c.in_ok-push.ensures.ok kept.count kept.each c.own_cell.ensures;
    }
