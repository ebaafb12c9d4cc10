-- What is left of the proof of `found::found_rows`.
use Rattle.std.proofs.Common.{◌*◌, [], ◌∷◌, length, length-append, ap, arith}
use Rattle.psy_flow.specs.Bits.{IsRow}
use Rattle.psy_flow.proofs.WayRows.{each_after}
use Rattle.psy_flow.proofs.found.found_rows.Goals as goal

pub rows-preserved : goal.rows-preserved
rows-preserved c =
    let instrs = c.args.instrs.now in
    let kept = c.rows.invariant in
    let row = c.in_ok-row.row in
    record {
      count = omega (arith, ap length c.in_ok-push.ensures, length-append c.rows.rows (row ∷ []), kept.count);
      each = each_after (λ k. IsRow instrs c.args.sought (k * 64)) c.rows.rows _ row c.rows.number c.in_ok-push.ensures kept.count kept.each c.in_ok-row.ensures;
    }
