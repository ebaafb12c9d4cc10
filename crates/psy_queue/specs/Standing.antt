-- What the fields of a queue stand for.
use Rattle.std.specs.Prelude.{◌≤◌, IsTrue, vec_len, vec_capacity}
use Rattle.psy_queue.specs.declared.queue.Queue.TheInside.{Inside}
use Rattle.psy_queue.specs.declared.room.TheConstants.{MOST_PLACES}
use Rattle.psy_queue.specs.Expiring.{ExpiryRises}
use Rattle.psy_queue.specs.Order.{Queued, AreInOrder}

-- The queue
abbrev pub queued : Inside → Queued
queued q = record { size = q.size; messages = q.messages.items }

-- Its messages are in order, and there are no more than its size, for which there is room.
pub record IsQueue (q : Inside) : Type 0 where
  pub in_order : AreInOrder q.messages.items
  pub within : vec_len q.messages ≤ q.size
  pub room : q.size ≤ vec_capacity q.messages
  pub limit : q.size ≤ MOST_PLACES
  -- those that are known to expire in their order do
  pub rising : IsTrue q.rising → ExpiryRises q.messages.items
