-- Sizes and faults by the lists of the ways of a program's statements are those by the statements.
use Rattle.std.proofs.Common.{◌↔◌, ℕ, ◌<◌, List, length, arith}
use Rattle.std.proofs.lemmas.Option.{slice_get_within}
use Rattle.psy_base.specs.Extremes.{IsGreatest}
use Rattle.psy_base.specs.declared.sizes.Sizes.{Sizes}
use Rattle.psy_base.specs.declared.ways.Ways.{Ways as WayLists}
use Rattle.psy_tree.specs.declared.unit.Unit.{Unit as Whole}
use Rattle.psy_meaning.specs.BufferSizes.{AreSizes}
use Rattle.psy_meaning.specs.KnownWays.{Listed, OfText}
use Rattle.psy_meaning.specs.QueueSizes.{AreQueues, HasSendsTo, IsLargeQueue, IsLargeTable, IsQueueSize, KeepsQueue, PassesTable}
use Rattle.psy_meaning.specs.RingSizes.{AreRings, IsLargeRing, IsRingSize}
use Rattle.psy_sizes.specs.declared.fault.SizeFault.{SizeFault}
use Rattle.psy_sizes.specs.declared.fault.SizeFault.TheVariants.{LargeRing, Cells, LargeQueue, Memory}
use Rattle.psy_sizes.specs.Faults.{CanCount, HaveRings, IsFaultBy}

-- Each size is one by the lists where it is one by the statements, and so is each table; and a stream to which an agent sends by its
-- statements is there.
pub record AreSame (unit : Whole) (ways : WayLists) : Type 0 where
  pub rings : (variable size : ℕ) → IsRingSize unit (Listed ways) ways.nexts variable size ↔ IsRingSize unit (OfText unit) ways.nexts variable size
  pub queues : (stream size : ℕ) → stream < length unit.streams → IsQueueSize unit (Listed ways) ways.nexts stream size ↔ IsQueueSize unit (OfText unit) ways.nexts stream size
  pub tables : (stream : ℕ) → stream < length unit.streams → PassesTable unit (Listed ways) ways.nexts stream ↔ PassesTable unit (OfText unit) ways.nexts stream
  pub outboxes : (agent size : ℕ) → agent < length unit.agents → IsGreatest (HasSendsTo unit (Listed ways) ways.nexts agent) size ↔ IsGreatest (HasSendsTo unit (OfText unit) ways.nexts agent) size
  pub known : (stream : ℕ) → PassesTable unit (OfText unit) ways.nexts stream → stream < length unit.streams

module _ (unit : Whole) (ways : WayLists) (same : AreSame unit ways) where
  rings_of : (rings : List ℕ) → AreRings unit (Listed ways) ways.nexts rings → AreRings unit (OfText unit) ways.nexts rings
  rings_of rings are = record { count = are.count; each = λ variable size at. (same.rings variable size).0 (are.each variable size at) }

  queues_of : (queues : List ℕ) → AreQueues unit (Listed ways) ways.nexts queues → AreQueues unit (OfText unit) ways.nexts queues
  queues_of queues are = record {
    count = are.count;
    each = λ stream size at. (let inside = slice_get_within queues stream size at in (same.queues stream size (omega (arith, inside, are.count))).0 (are.each stream size at));
  }

  pub sizes_of : (sizes : Sizes) → AreSizes unit (Listed ways) ways.nexts sizes → AreSizes unit (OfText unit) ways.nexts sizes
  sizes_of sizes are = record {
    rings = rings_of sizes.rings are.rings;
    small_rings = are.small_rings;
    queues = queues_of sizes.queues are.queues;
    small_queues = are.small_queues;
    outboxes = record {
      count = are.outboxes.count;
      each = λ agent size at. (let inside = slice_get_within sizes.outboxes agent size at in (same.outboxes agent size (omega (arith, inside, are.outboxes.count))).0 (are.outboxes.each agent size at));
    };
  }

  pub sizes_listed : (sizes : Sizes) → AreSizes unit (OfText unit) ways.nexts sizes → AreSizes unit (Listed ways) ways.nexts sizes
  sizes_listed sizes are = record {
    rings = record { count = are.rings.count; each = λ variable size at. (same.rings variable size).1 (are.rings.each variable size at) };
    small_rings = are.small_rings;
    queues = record {
      count = are.queues.count;
      each = λ stream size at. (let inside = slice_get_within sizes.queues stream size at in (same.queues stream size (omega (arith, inside, are.queues.count))).1 (are.queues.each stream size at));
    };
    small_queues = are.small_queues;
    outboxes = record {
      count = are.outboxes.count;
      each = λ agent size at. (let inside = slice_get_within sizes.outboxes agent size at in (same.outboxes agent size (omega (arith, inside, are.outboxes.count))).1 (are.outboxes.each agent size at));
    };
  }

  pub counted_of : CanCount unit (Listed ways) ways.nexts → CanCount unit (OfText unit) ways.nexts
  counted_of counted stream passes = counted stream ((same.tables stream (same.known stream passes)).1 passes)

  large_ring : (variable : ℕ) → IsLargeRing unit (Listed ways) ways.nexts variable → IsLargeRing unit (OfText unit) ways.nexts variable
  large_ring variable large = record {
    size = large.size;
    is_size = (same.rings variable large.size).0 large.is_size;
    passes = large.passes;
    earlier = λ before size less is. large.earlier before size less ((same.rings before size).1 is);
  }

  have_rings : HaveRings unit (Listed ways) ways.nexts → HaveRings unit (OfText unit) ways.nexts
  have_rings (rings, are, small) = (rings, rings_of rings are, small)

  keeps_of : (stream : ℕ) → stream < length unit.streams → KeepsQueue unit (Listed ways) ways.nexts stream → KeepsQueue unit (OfText unit) ways.nexts stream
  keeps_of stream less keeps = record {
    counted = λ passes. keeps.counted ((same.tables stream less).1 passes);
    size = keeps.size;
    is_size = (same.queues stream keeps.size less).0 keeps.is_size;
    small = keeps.small;
  }

  large_table : (stream : ℕ) → IsLargeTable unit (Listed ways) ways.nexts stream → IsLargeTable unit (OfText unit) ways.nexts stream
  large_table stream large = record {
    known = large.known;
    passes = (same.tables stream large.known).0 large.passes;
    earlier = λ before less. keeps_of before (omega (arith, less, large.known)) (large.earlier before less);
  }

  large_queue : (stream : ℕ) → IsLargeQueue unit (Listed ways) ways.nexts stream → IsLargeQueue unit (OfText unit) ways.nexts stream
  large_queue stream large = record {
    known = large.known;
    counted = λ passes. large.counted ((same.tables stream large.known).1 passes);
    size = large.size;
    is_size = (same.queues stream large.size large.known).0 large.is_size;
    passes = large.passes;
    earlier = λ before less. keeps_of before (omega (arith, less, large.known)) (large.earlier before less);
  }

  pub fault_of : (fault : SizeFault) → IsFaultBy unit (Listed ways) ways.nexts fault → IsFaultBy unit (OfText unit) ways.nexts fault
  fault_of (LargeRing variable) large = large_ring variable large
  fault_of (Cells stream) (rings, large) = (have_rings rings, large_table stream large)
  fault_of (LargeQueue stream) (rings, large) = (have_rings rings, large_queue stream large)
  fault_of Memory none = none
