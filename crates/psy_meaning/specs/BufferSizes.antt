-- The sizes of all buffers of a program, by the ways of its actions.
use Rattle.std.specs.Prelude.{◌≤◌, ℕ, List}
use Rattle.std.specs.List.{All}
use Rattle.psy_base.specs.declared.limits.TheConstants.{QUEUE, RING}
use Rattle.psy_base.specs.declared.sizes.Sizes.{Sizes}
use Rattle.psy_tree.specs.declared.unit.Unit.{Unit as Whole}
use Rattle.psy_meaning.specs.KnownWays.{Ways}
use Rattle.psy_meaning.specs.QueueSizes.{AreOutboxes, AreQueues}
use Rattle.psy_meaning.specs.RingSizes.{AreRings}

-- Rings, queues and outboxes have the sizes that they need by these ways, and no ring or queue has more places than it may.
pub record AreSizes (unit : Whole) (ways : Ways) (nexts : List (List (List ℕ))) (sizes : Sizes) : Type 0 where
  pub rings : AreRings unit ways nexts sizes.rings
  pub small_rings : All (λ size. size ≤ RING) sizes.rings
  pub queues : AreQueues unit ways nexts sizes.queues
  pub small_queues : All (λ size. size ≤ QUEUE) sizes.queues
  pub outboxes : AreOutboxes unit ways nexts sizes.outboxes
