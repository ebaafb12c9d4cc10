-- What is found of a stream on the way to the size of its queue: the last date of its window, the tables of its senders, and whether it is
-- at fault.
use Rattle.std.specs.Prelude.{◌≡◌, ◌⊎◌, ℕ, ◌-◌, ◌*◌, ◌<◌, ◌≤◌, min, true, List, length}
use Rattle.std.specs.List.{Contains}
use Rattle.psy_base.specs.declared.edge.Edge.{Edge}
use Rattle.psy_base.specs.declared.limits.TheConstants.{QUEUE, WINDOW_CELLS}
use Rattle.psy_tree.specs.declared.unit.Unit.{Unit as Whole}
use Rattle.psy_meaning.specs.Graph.{Spot, IsGraph}
use Rattle.psy_meaning.specs.KnownWays.{Ways, sends_to}
use Rattle.psy_meaning.specs.QueueSizes.{IsLargeQueue, IsLargeTable, IsQueueSize, IsWindow, PassesTable}
use Rattle.psy_meaning.specs.RingSizes.{agent_timing}
use Rattle.psy_sizes.specs.declared.fault.SizeFault.{SizeFault}
use Rattle.psy_sizes.specs.declared.fault.SizeFault.TheVariants.{LargeRing, Cells, LargeQueue, Memory}

-- ---- windows

-- So many ticks pass from an agent's start to its first action, or along one of its edges.
abbrev pub HasLength : ℕ → List Edge → ℕ → Type 0
HasLength first edges ticks = (ticks ≡ first) ⊎ ((e : Edge) × Contains edges e × (e.len ≡ ticks))

-- The last date of a stream's window, counted from its first one; cut at the limit of a table, which no table of more dates keeps
abbrev pub IsTop : Whole → Ways → List (List (List ℕ)) → ℕ → ℕ → Type 0
IsTop unit ways nexts stream top = (window : ℕ) × IsWindow unit ways nexts stream window × (1 ≤ window) × (top ≡ min (window - 1) WINDOW_CELLS)

-- ---- tables

-- The table of an agent that sends to a stream has more cells than one may have.
abbrev pub PassesTableOf : Whole → Ways → List (List (List ℕ)) → ℕ → ℕ → Type 0
PassesTableOf unit ways nexts stream agent =
    (window : ℕ) × (spots : List Spot) × (edges : List Edge)
    × (sends_to ways agent stream ≡ true)
    × IsWindow unit ways nexts stream window
    × IsGraph (agent_timing unit nexts agent) spots edges
    × (WINDOW_CELLS < length spots * window)

-- ---- faults

-- The queue of a stream has this size, which can be computed and keeps the limit.
pub record IsKeptQueue (unit : Whole) (ways : Ways) (nexts : List (List (List ℕ))) (stream size : ℕ) : Type 0 where
  pub counted : PassesTable unit ways nexts stream → ⊥
  pub is_size : IsQueueSize unit ways nexts stream size
  pub small : size ≤ QUEUE

-- A stream is at fault: a table for it has too many cells, or else its queue too many places.
abbrev pub IsAtFault : Whole → Ways → List (List (List ℕ)) → ℕ → SizeFault → Type 0
IsAtFault unit ways nexts stream fault =
    ((fault ≡ Cells stream) × PassesTable unit ways nexts stream)
    ⊎ ((fault ≡ LargeQueue stream) × (PassesTable unit ways nexts stream → ⊥) × (size : ℕ) × IsQueueSize unit ways nexts stream size × (QUEUE < size))

-- The first stream at fault
abbrev pub IsQueueFault : Whole → Ways → List (List (List ℕ)) → SizeFault → Type 0
IsQueueFault unit ways nexts (LargeRing variable) = ⊥
IsQueueFault unit ways nexts (Cells stream) = IsLargeTable unit ways nexts stream
IsQueueFault unit ways nexts (LargeQueue stream) = IsLargeQueue unit ways nexts stream
IsQueueFault unit ways nexts Memory = ⊥
