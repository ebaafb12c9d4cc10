-- The sizes of a program's buffers by one list of the points that follow, which is the only one.
use Rattle.std.proofs.Common.{◌≡◌, ℕ, List, subst}
use Rattle.psy_base.specs.declared.sizes.Sizes.{Sizes}
use Rattle.psy_meaning.specs.BufferSizes.{AreSizes}
use Rattle.psy_meaning.specs.Flow.{AreAllNexts}
use Rattle.psy_meaning.specs.KnownWays.{OfText}
use Rattle.psy_sizes.specs.declared.fault.SizeFault.TheVariants as size
use Rattle.psy_sizes.specs.Faults.{IsFaultBy}
use Rattle.psy_tree.specs.declared.unit.Unit.{Unit as Whole}
use Rattle.psy_plan.specs.declared.refusal.Refusal.{Refusal}
use Rattle.psy_plan.specs.declared.refusal.Refusal.TheVariants.{Ring, Queue, Cells}
use Rattle.psy_plan.specs.Steps.{IsUnsizedBy}
use Rattle.psy_report.specs.Measured.{AreSizesOf, IsUnsized}

module _ (unit : Whole) (nexts : List (List (List ℕ))) (only : (others : List (List (List ℕ))) → AreAllNexts unit others → nexts ≡ others) where
  -- They are the sizes by each list.
  pub sizes_of : (sizes : Sizes) → AreSizes unit (OfText unit) nexts sizes → AreSizesOf unit sizes
  sizes_of sizes are others follow = subst (λ ns. AreSizes unit (OfText unit) ns sizes) (only others follow) are

  -- And so is what is at fault.
  pub unsized_of : (refusal : Refusal) → IsUnsizedBy unit (OfText unit) nexts refusal → IsUnsized unit refusal
  unsized_of Ring (variable, is) = (variable, λ others follow. subst (λ ns. IsFaultBy unit (OfText unit) ns (size.LargeRing variable)) (only others follow) is)
  unsized_of Cells (stream, is) = (stream, λ others follow. subst (λ ns. IsFaultBy unit (OfText unit) ns (size.Cells stream)) (only others follow) is)
  unsized_of Queue (stream, is) = (stream, λ others follow. subst (λ ns. IsFaultBy unit (OfText unit) ns (size.LargeQueue stream)) (only others follow) is)
  unsized_of _ never = absurd never
