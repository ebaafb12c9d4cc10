-- What the loop of `shared::Shared::shown_from` keeps.
use Rattle.std.proofs.Common.{◌≡◌, ℕ, ◌<◌, ◌≤◌, Some, slice_get}
use Rattle.std.specs.Prelude.{◌⊎◌}
use Rattle.psy_base.specs.declared.message.Message.{Message}
use Rattle.psy_queue.specs.Order.{Queued}
use Rattle.psy_dates.proofs.shared.Shared.shown_from.Given as goal

abbrev pub invariant-streams : goal.invariant-streams
invariant-streams l = (stream : ℕ) (queue : Queued) → stream < l.stream → slice_get l.self.queues.items stream ≡ Some queue
    → (k : ℕ) (m : Message) → slice_get queue.messages k ≡ Some m → (m.visible < l.date) ⊎ (l.least ≤ m.visible)
