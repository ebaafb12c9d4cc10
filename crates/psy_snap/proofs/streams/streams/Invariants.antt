-- What the loop of `streams::streams` keeps.
use Rattle.std.proofs.Common.{◌≡◌, [], drop}
use Rattle.psy_snap.specs.Forms.{form_of}
use Rattle.psy_snap.specs.Reading.{each_at, stream_at}
use Rattle.psy_snap.proofs.streams.streams.Given as goal

abbrev pub invariant-streams : goal.invariant-streams
invariant-streams l = each_at (stream_at l.fn.date l.fn.agents) (drop l.number (form_of l.fn.plan []).streams) l.streams l.rest ≡ each_at (stream_at l.fn.date l.fn.agents) (form_of l.fn.plan []).streams [] l.fn.bytes
