-- What each loop of `asked::asked_streams` keeps.
use Rattle.std.proofs.Common.{map, take}
use Rattle.std.specs.Prelude.{string_bytes}
use Rattle.psy_draw.specs.Gathering.{asks_stream}
use Rattle.psy_draw.specs.Listing.{Lists}
use Rattle.psy_draw.proofs.asked.asked_streams.Given as goal

-- The names so far
abbrev pub invariant-loop-note : goal.invariant-loop-note
invariant-loop-note l = Lists (asks_stream (map string_bytes l.names)) (take l.note-index l.summary) l.streams
