-- The size of a stream's queue, whoever sends to it, and the sizes of all queues.
use Rattle.std.proofs.Common.{◌≡◌, ℕ, ◌<◌, true, false, List, length, get_or, refl, sym, subst, ◌∙◌, inl, inr, arith}
use Rattle.std.proofs.lemmas.Bool.{false≢true}
use Rattle.std.proofs.lemmas.Option.{get_or_from_slice_get, slice_get_within}
use Rattle.psy_base.specs.declared.ways.Ways.{Ways as WayLists}
use Rattle.psy_tree.specs.declared.unit.Unit.{Unit as Whole}
use Rattle.psy_meaning.specs.KnownWays.{Listed, Ways, is_sent}
use Rattle.psy_meaning.specs.QueueSizes.{AreQueues, IsQueueSize, IsSizeFor, IsSpreadBelow, IsWindow, KeepsQueue, PassesTable}
use Rattle.psy_sizes.specs.declared.fault.SizeFault.{SizeFault}
use Rattle.psy_sizes.specs.Queues.{IsAtFault, IsKeptQueue, IsQueueFault}
use Rattle.psy_sizes.proofs.NoSends.{nobody}

-- No agent has a table for a stream to which nobody sends.
pub none_counted : (unit : Whole) (lists : WayLists) (nexts : List (List (List ℕ))) (stream : ℕ) → is_sent (Listed lists) stream ≡ false → PassesTable unit (Listed lists) nexts stream → ⊥
none_counted unit lists nexts stream none (agent, window, spots, edges, less, sends, is, its, passes) = false≢true (sym (nobody lists agent stream none) ∙ sends)

pub size_of_none : (unit : Whole) (ways : Ways) (nexts : List (List (List ℕ))) (stream : ℕ) → is_sent ways stream ≡ false → IsQueueSize unit ways nexts stream 0
size_of_none unit ways nexts stream none = subst (IsSizeFor unit ways nexts stream 0) (sym none) refl

pub size_of_some : (unit : Whole) (ways : Ways) (nexts : List (List (List ℕ))) (stream window size : ℕ) → is_sent ways stream ≡ true → IsWindow unit ways nexts stream window
    → IsSpreadBelow unit ways nexts stream window (length unit.agents) size → IsQueueSize unit ways nexts stream size
size_of_some unit ways nexts stream window size sent is spread = subst (IsSizeFor unit ways nexts stream size) (sym sent) (window, is, spread)

-- ---- all queues

module _ (unit : Whole) (ways : Ways) (nexts : List (List (List ℕ))) where
  -- The queues of the streams before one have these sizes.
  abbrev pub AreKept : ℕ → List ℕ → Type 0
  AreKept stream sizes = (before d : ℕ) → before < stream → IsKeptQueue unit ways nexts before (get_or sizes before d)

  keeps : (before size : ℕ) → IsKeptQueue unit ways nexts before size → KeepsQueue unit ways nexts before
  keeps before size h = record { counted = h.counted; size = size; is_size = h.is_size; small = h.small }

  pub first_fault : (stream : ℕ) (sizes : List ℕ) (fault : SizeFault) → stream < length unit.streams → AreKept stream sizes → IsAtFault unit ways nexts stream fault → IsQueueFault unit ways nexts fault
  first_fault stream sizes fault known kept (inl (is, passes)) =
      subst (IsQueueFault unit ways nexts) (sym is) (record { known = known; passes = passes; earlier = λ before less. keeps before (get_or sizes before 0) (kept before 0 less) })
  first_fault stream sizes fault known kept (inr (is, counted, size, is_size, passes)) =
      subst (IsQueueFault unit ways nexts) (sym is)
      (record { known = known; counted = counted; size = size; is_size = is_size; passes = passes; earlier = λ before less. keeps before (get_or sizes before 0) (kept before 0 less) })

  pub all_queues : (sizes : List ℕ) → length sizes ≡ length unit.streams → AreKept (length unit.streams) sizes → AreQueues unit ways nexts sizes
  all_queues sizes count kept = record {
    count = count;
    each = λ stream size e. (
        let less = slice_get_within sizes stream size e in
        subst (IsQueueSize unit ways nexts stream) (get_or_from_slice_get sizes stream size size e) (kept stream size (omega (arith, less, count))).is_size
        );
  }
