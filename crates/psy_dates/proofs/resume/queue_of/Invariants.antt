-- What each loop of `resume::queue_of` keeps.
use Rattle.std.proofs.Common.{◌≡◌, ◌+◌, length, take}
use Rattle.psy_dates.proofs.resume.queue_of.Given as goal

abbrev pub invariant-messages : goal.invariant-messages
invariant-messages l = record {
  size : l.queue.size ≡ l.size + length l.messages;
  holds : l.queue.messages ≡ take l.place l.messages;
}
