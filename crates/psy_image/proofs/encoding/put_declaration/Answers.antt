-- What is left of the proof of `encoding::put_declaration`.
use Rattle.std.proofs.Common.{length}
use Rattle.psy_image.specs.Bytes.{number_bytes, paired_bytes, point_bytes}
use Rattle.psy_image.proofs.Written.{adds_6, same_end}
use Rattle.psy_image.proofs.encoding.put_declaration.Goals as goal

pub returns : goal.returns
returns c = adds_6 _ _ _ _ _ _ _ _ _ _ _ _ _ c.in_ok-put_name.ensures c.in_ok-put_number.ensures c.in_ok-put_number-2.ensures c.in_ok-put_number-3.ensures
    (same_end number_bytes _ _ c.len.result (length c.args.agent.now.points) c.len.ensures c.in_ok-put_count.ensures)
    (same_end (paired_bytes point_bytes c.args.places.now) _ _ c.as_slice.result.now c.args.agent.now.points c.as_slice.ensures c.in_ok-put_points.ensures)
