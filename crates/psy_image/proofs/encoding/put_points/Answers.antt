-- What is left of the proof of `encoding::put_points`.
use Rattle.std.proofs.Common.{◌++◌, arith}
use Rattle.std.proofs.lemmas.List.{drop_more}
use Rattle.psy_image.specs.Bytes.{paired_bytes, point_bytes}
use Rattle.psy_image.proofs.Written.{paired_done, paired_goes}
use Rattle.psy_image.proofs.encoding.put_points.Goals as goal

pub points-preserved : goal.points-preserved
points-preserved c = paired_goes point_bytes c.args.places.now c.args.points.now c.points.at _ _ c.points.out.items _ _ (drop_more c.args.places.now c.points.at _ (omega (arith, c.points-test.true, c.min-len.ensures))) (drop_more c.args.points.now c.points.at _ (omega (arith, c.points-test.true, c.min-len.ensures)))
    c.in_ok-put_point.ensures c.points.invariant

pub returns : goal.returns
returns c = paired_done point_bytes c.args.places.now c.args.points.now c.points.at c.points.out.items (c.args.out.now.items ++ paired_bytes point_bytes c.args.places.now c.args.points.now) (omega (arith, c.points-test.false, c.min-len.ensures)) c.points.invariant
