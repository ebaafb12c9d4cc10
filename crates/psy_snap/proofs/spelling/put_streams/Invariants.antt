-- What the loop of `spelling::put_streams` keeps.
use Rattle.std.proofs.Common.{◌≡◌, ◌++◌, take}
use Rattle.std.specs.List.{flat_map}
use Rattle.psy_snap.specs.Bytes.{stream_bytes}
use Rattle.psy_snap.proofs.spelling.put_streams.Given as goal

abbrev pub invariant-streams : goal.invariant-streams
invariant-streams l = l.out ≡ l.fn.out ++ flat_map stream_bytes (take l.stream-index l.streams)
