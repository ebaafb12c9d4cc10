-- What the loop of `encoding::put_streams` keeps.
use Rattle.std.proofs.Common.{◌≡◌, ◌++◌, length, take}
use Rattle.std.specs.List.{flat_map}
use Rattle.psy_image.specs.Bytes.{stream_bytes, number_bytes}
use Rattle.psy_image.proofs.encoding.put_streams.Given as goal

abbrev pub invariant-streams : goal.invariant-streams
invariant-streams l = l.out.items ≡ (l.fn.out.items ++ number_bytes (length l.streams)) ++ flat_map stream_bytes (take l.stream-index l.streams)
