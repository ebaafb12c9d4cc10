-- What the loop of `encoding::put_points` keeps.
use Rattle.std.proofs.Common.{◌≡◌, ◌++◌, drop}
use Rattle.psy_image.specs.Bytes.{point_bytes, paired_bytes}
use Rattle.psy_image.proofs.encoding.put_points.Given as goal

abbrev pub invariant-points : goal.invariant-points
invariant-points l = l.out.items ++ paired_bytes point_bytes (drop l.at l.places) (drop l.at l.points) ≡ l.fn.out.items ++ paired_bytes point_bytes l.places l.points
