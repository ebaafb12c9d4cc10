-- What each loop of `engine::freeze::messages_left` keeps.
use Rattle.std.proofs.Common.{◌≡◌, take}
use Rattle.psy_kernel.proofs.engine.freeze.messages_left.Given as goal

abbrev pub invariant-messages : goal.invariant-messages
invariant-messages l = l.messages ≡ take l.place l.queue.messages
