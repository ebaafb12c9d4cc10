-- Why a program has no sizes.
use Rattle.std.specs.Prelude.{ℕ, ◌≤◌, List}
use Rattle.std.specs.List.{All}
use Rattle.psy_base.specs.declared.limits.TheConstants.{RING}
use Rattle.psy_tree.specs.declared.unit.Unit.{Unit as Whole}
use Rattle.psy_meaning.specs.Flow.{AreAllNexts}
use Rattle.psy_meaning.specs.KnownWays.{OfText, Ways}
use Rattle.psy_meaning.specs.QueueSizes.{IsLargeQueue, IsLargeTable, PassesTable}
use Rattle.psy_meaning.specs.RingSizes.{AreRings, IsLargeRing}
use Rattle.psy_sizes.specs.declared.fault.SizeFault.{SizeFault}
use Rattle.psy_sizes.specs.declared.fault.SizeFault.TheVariants.{LargeRing, Cells, LargeQueue, Memory}

-- All rings have sizes that keep the limit.
abbrev pub HaveRings : Whole → Ways → List (List (List ℕ)) → Type 0
HaveRings unit ways nexts = (rings : List ℕ) × AreRings unit ways nexts rings × All (λ size. size ≤ RING) rings

-- No table by which the size of a queue is found has too many cells.
abbrev pub CanCount : Whole → Ways → List (List (List ℕ)) → Type 0
CanCount unit ways nexts = (stream : ℕ) → PassesTable unit ways nexts stream → ⊥

-- The first variable or stream at fault, variables before streams: its ring or queue would be too large, or a table for it.
abbrev pub IsFaultBy : Whole → Ways → List (List (List ℕ)) → SizeFault → Type 0
IsFaultBy unit ways nexts (LargeRing variable) = IsLargeRing unit ways nexts variable
IsFaultBy unit ways nexts (Cells stream) = HaveRings unit ways nexts × IsLargeTable unit ways nexts stream
IsFaultBy unit ways nexts (LargeQueue stream) = HaveRings unit ways nexts × IsLargeQueue unit ways nexts stream
IsFaultBy unit ways nexts Memory = ⊥

-- The same by the program's statements, and by the points that follow each of its points
abbrev pub IsCause : Whole → SizeFault → Type 0
IsCause unit fault = (nexts : List (List (List ℕ))) → AreAllNexts unit nexts → IsFaultBy unit (OfText unit) nexts fault
