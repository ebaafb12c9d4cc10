-- What the loop of `streams::messages` keeps.
use Rattle.std.proofs.Common.{◌≡◌, drop, replicate}
use Rattle.psy_snap.specs.Cuts.{message_asks}
use Rattle.psy_snap.specs.Reading.{each_at, message_at, messages_at}
use Rattle.psy_snap.proofs.streams.messages.Given as goal

abbrev pub invariant-messages : goal.invariant-messages
invariant-messages l = each_at (message_at l.fn.agents l.fn.date l.fn.begun) (drop l.counter (replicate l.fn.count (message_asks l.fn.agents))) l.messages l.rest
    ≡ messages_at l.fn.agents l.fn.date l.fn.begun l.fn.count l.fn.bytes
