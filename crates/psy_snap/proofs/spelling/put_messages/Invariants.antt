-- What the loop of `spelling::put_messages` keeps.
use Rattle.std.proofs.Common.{◌≡◌, ◌++◌, take}
use Rattle.std.specs.List.{flat_map}
use Rattle.psy_snap.specs.Bytes.{message_bytes}
use Rattle.psy_snap.proofs.spelling.put_messages.Given as goal

abbrev pub invariant-messages : goal.invariant-messages
invariant-messages l = l.out ≡ l.fn.out ++ flat_map message_bytes (take l.message-index l.messages)
