-- What the loop of `agents::points` keeps.
use Rattle.std.proofs.Common.{◌≡◌, ◌-◌}
use Rattle.psy_image.specs.Formats.{times}
use Rattle.psy_image.specs.Images.{point, points}
use Rattle.psy_image.specs.Reading.{read}
use Rattle.psy_image.proofs.agents.points.Given as goal

abbrev pub invariant-points : goal.invariant-points
invariant-points l = read (times (l.count - l.counter) (point l.clocks) (l.points.points, l.points.places)) l.rest ≡ read (points l.clocks l.clock l.budget) l.bytes
