-- What the loop of `declarations::streams` keeps.
use Rattle.std.proofs.Common.{◌≡◌, ◌-◌}
use Rattle.psy_image.specs.Formats.{times}
use Rattle.psy_image.specs.Images.{stream, streams}
use Rattle.psy_image.specs.Reading.{read}
use Rattle.psy_image.proofs.declarations.streams.Given as goal

abbrev pub invariant-streams : goal.invariant-streams
invariant-streams l = read (times (l.count - l.counter) (stream l.clocks) (l.seen, l.list)) l.rest ≡ read (streams l.clocks l.fn.seen) l.bytes
