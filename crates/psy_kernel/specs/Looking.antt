-- What the eyes of an action serve, and what a call leaves as it was.
use Rattle.std.specs.Prelude.{◌≡◌, ◌⊎◌, ℕ, ◌≤◌, true, length, Some, slice_get}
use Rattle.psy_code.specs.Views.{Window}
use Rattle.psy_queue.specs.Order.{Queued}
use Rattle.psy_kernel.specs.declared.eyes.Eyes.{Eyes}
use Rattle.psy_kernel.specs.Seeing.{is_mine, seen_by, window_in}

-- What eyes serve
abbrev pub window_of : Eyes → Window
window_of eyes = window_in eyes.scene.now eyes.taken.now.items eyes.outbox.now eyes.noted

-- A call leaves what is looked at, the size of the outbox and what was taken of streams that others receive; no more is taken than was
-- visible at the start.
pub record KeepsRest (before after : Eyes) : Type 0 where
  pub same_taken : after.taken.ghost_name ≡ before.taken.ghost_name
  pub same_outbox : after.outbox.ghost_name ≡ before.outbox.ghost_name
  pub scene : after.scene.now ≡ before.scene.now
  pub size : after.outbox.now.size ≡ before.outbox.now.size
  pub count : length after.taken.now.items ≡ length before.taken.now.items
  pub others : (stream : ℕ) → (is_mine before.scene.now stream ≡ Some true → ⊥)
      → slice_get after.taken.now.items stream ≡ slice_get before.taken.now.items stream
  pub within : (stream n : ℕ) (queue : Queued) → slice_get before.scene.now.queues stream ≡ Some queue → slice_get after.taken.now.items stream ≡ Some n
      → (slice_get before.taken.now.items stream ≡ Some n) ⊎ (n ≤ seen_by queue.messages before.scene.now.start)
