-- What each loop of `engine::freeze::streams_left` keeps.
use Rattle.std.proofs.Common.{◌≡◌, map}
use Rattle.std.specs.List.{range_with_len}
use Rattle.psy_kernel.specs.Freezing.{stream_left}
use Rattle.psy_kernel.proofs.engine.freeze.streams_left.Given as goal

abbrev pub invariant-streams : goal.invariant-streams
invariant-streams l = l.streams ≡ map (stream_left l.queues l.helds) (range_with_len 0 l.stream)
