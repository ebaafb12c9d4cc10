-- The sizes of buffers by ways that are given as lists, and the limits that they pass, are the same for units whose declarations are.
use Rattle.std.proofs.Common.{◌≡◌, inl, inr, sym, ap, subst, ◌∙◌, ℕ, zero, suc, ◌+◌, ◌-◌, ◌*◌, ◌<◌, Bool, true, false, List, length, get_or}
use Rattle.std.specs.Prelude.{Some, slice_get}
use Rattle.std.specs.List.{Contains}
use Rattle.psy_base.specs.declared.edge.Edge.{Edge}
use Rattle.psy_base.specs.declared.limits.TheConstants.{WINDOW_CELLS}
use Rattle.psy_base.specs.declared.sizes.Sizes.{Sizes}
use Rattle.psy_base.specs.declared.ways.Ways.{Ways as WayLists}
use Rattle.psy_base.specs.Extremes.{IsGreatest}
use Rattle.psy_base.specs.Paths.{FitsFirstFree, IsGreatestWeight}
use Rattle.psy_meaning.specs.BufferSizes.{AreSizes}
use Rattle.psy_meaning.specs.Graph.{Spot, IsGraph}
use Rattle.psy_meaning.specs.KnownWays.{Listed, Looks, delay_by, is_sent, sends_to}
use Rattle.psy_meaning.specs.QueueSizes.{AreOutboxes, AreQueues, AreSendEdges, AreSendsBelow, HasSendsTo, IsLargeQueue, IsLargeTable, IsQueueSize}
use Rattle.psy_meaning.specs.QueueSizes.{IsSizeFor, IsSpread, IsSpreadBelow, IsWindow, KeepsQueue, MayLast, PassesTable}
use Rattle.psy_meaning.specs.RingSizes.{AreRings, IsDueIn, IsLargeRing, IsRingSize, MayPass, dates_between}
use Rattle.psy_meaning.specs.Timing.{clock_at, following}
use Rattle.psy_sizes.specs.declared.fault.SizeFault.{SizeFault}
use Rattle.psy_sizes.specs.declared.fault.SizeFault.TheVariants.{LargeRing, Cells, LargeQueue, Memory}
use Rattle.psy_sizes.specs.Faults.{CanCount, HaveRings, IsFaultBy}
use Rattle.psy_tree.specs.Parts.{no_clock, no_stream}
use Rattle.psy_tree.specs.declared.unit.StreamDecl.{StreamDecl}
use Rattle.psy_tree.specs.declared.unit.Unit.{Unit as Whole}
use Rattle.psy_tree.specs.declared.unit.VarDecl.{VarDecl}
use Rattle.psy_same.proofs.Emptied.{Plain, plain}

-- ---- what is read of a unit

-- So many dates of a variable may pass.
abbrev PassIn : WayLists → ℕ → ℕ → Plain → Type 0
PassIn ways variable dates p =
    (agent point date due : ℕ) × (decl : VarDecl)
    × (agent < p.agents)
    × Looks (Listed ways) agent point variable
    × IsDueIn (p.timings agent) point date due
    × (slice_get p.variables variable ≡ Some decl)
    × (dates ≡ dates_between (clock_at (p.timings agent) decl.clock) date (date + due - 1))

-- For so many dates a message may be held.
abbrev WindowIn : WayLists → ℕ → ℕ → Plain → Type 0
WindowIn ways stream window p =
    let its : StreamDecl = get_or p.streams stream no_stream in
    (longest : ℕ) × IsGreatest (MayLast (p.timings its.receiver)) longest
    × (window ≡ delay_by (Listed ways) stream + its.keep * (get_or p.clocks its.clock no_clock).period + longest - 1)

-- So many messages of an agent are sent in that time.
abbrev SpreadIn : WayLists → ℕ → ℕ → ℕ → ℕ → Plain → Type 0
SpreadIn ways stream window agent n p =
    (spots : List Spot) × (edges sent : List Edge)
    × IsGraph (p.timings agent) spots edges
    × AreSendEdges (Listed ways) agent stream spots edges sent
    × IsGreatestWeight sent (FitsFirstFree (window - 1)) n

-- A table has too many cells.
abbrev TableIn : WayLists → ℕ → Plain → Type 0
TableIn ways stream p =
    (agent window : ℕ) × (spots : List Spot) × (edges : List Edge)
    × (agent < p.agents)
    × (sends_to (Listed ways) agent stream ≡ true)
    × WindowIn ways stream window p
    × IsGraph (p.timings agent) spots edges
    × (WINDOW_CELLS < length spots * window)

-- So many messages are sent by an action at most.
abbrev OutboxIn : WayLists → ℕ → ℕ → Plain → Type 0
OutboxIn ways agent size p = IsGreatest
    (λ n. (from to : ℕ) × (from < length (p.timings agent).points) × Contains (following (p.timings agent) from) to
    × AreSendsBelow (Listed ways) agent from to (length p.streams) n) size

-- ---- sizes

module _ (ways : WayLists) (nexts : List (List (List ℕ))) (a b : Whole) (same : plain a nexts ≡ plain b nexts) where
  may_pass : (variable dates : ℕ) → MayPass a (Listed ways) nexts variable dates → MayPass b (Listed ways) nexts variable dates
  may_pass variable dates = subst (PassIn ways variable dates) same

  is_window : (stream window : ℕ) → IsWindow a (Listed ways) nexts stream window → IsWindow b (Listed ways) nexts stream window
  is_window stream window = subst (WindowIn ways stream window) same

  is_spread : (stream window agent n : ℕ) → IsSpread a (Listed ways) nexts stream window agent n → IsSpread b (Listed ways) nexts stream window agent n
  is_spread stream window agent n = subst (SpreadIn ways stream window agent n) same

  passes_table : (stream : ℕ) → PassesTable a (Listed ways) nexts stream → PassesTable b (Listed ways) nexts stream
  passes_table stream = subst (TableIn ways stream) same

  is_outbox : (agent size : ℕ) → IsGreatest (HasSendsTo a (Listed ways) nexts agent) size → IsGreatest (HasSendsTo b (Listed ways) nexts agent) size
  is_outbox agent size = subst (OutboxIn ways agent size) same

  spread_below : (stream window agents n : ℕ) → IsSpreadBelow a (Listed ways) nexts stream window agents n
      → IsSpreadBelow b (Listed ways) nexts stream window agents n
  spread_below stream window zero n is = is
  spread_below stream window (suc agent) n (others, one, below, its, sum) =
      (others, one, spread_below stream window agent others below, is_spread stream window agent one its, sum)

  size_for : (stream size : ℕ) (sent : Bool) → IsSizeFor a (Listed ways) nexts stream size sent → IsSizeFor b (Listed ways) nexts stream size sent
  size_for stream size false is = is
  size_for stream size true (window, its, below) = (
    window,
    is_window stream window its,
    subst (λ (p : Plain). IsSpreadBelow b (Listed ways) nexts stream window p.agents size) same
        (spread_below stream window (length a.agents) size below),
  )

  queue_size : (stream size : ℕ) → IsQueueSize a (Listed ways) nexts stream size → IsQueueSize b (Listed ways) nexts stream size
  queue_size stream size = size_for stream size (is_sent (Listed ways) stream)

  same_outboxes : (sizes : List ℕ) → AreOutboxes a (Listed ways) nexts sizes → AreOutboxes b (Listed ways) nexts sizes
  same_outboxes sizes are = record {
    count = are.count ∙ ap (λ (p : Plain). p.agents) same;
    each = λ agent size at. is_outbox agent size (are.each agent size at);
  }

  same_queues : (sizes : List ℕ) → AreQueues a (Listed ways) nexts sizes → AreQueues b (Listed ways) nexts sizes
  same_queues sizes are = record {
    count = are.count ∙ ap (λ (p : Plain). length p.streams) same;
    each = λ stream size at. queue_size stream size (are.each stream size at);
  }

-- ---- there and back

module _ (ways : WayLists) (nexts : List (List (List ℕ))) (a b : Whole) (same : plain a nexts ≡ plain b nexts) where
  ring_size : (variable size : ℕ) → IsRingSize a (Listed ways) nexts variable size → IsRingSize b (Listed ways) nexts variable size
  ring_size variable size is = record {
    most = is.most;
    one = elim is.one [
      | inl none ↦ inl none
      | inr passes ↦ inr (may_pass ways nexts a b same variable is.most passes)
    ];
    all = λ dates passes. is.all dates (may_pass ways nexts b a (sym same) variable dates passes);
    decl = is.decl;
    declared = ap (λ (p : Plain). slice_get p.variables variable) (sym same) ∙ is.declared;
    sum = is.sum;
  }

  same_rings : (sizes : List ℕ) → AreRings a (Listed ways) nexts sizes → AreRings b (Listed ways) nexts sizes
  same_rings sizes are = record {
    count = are.count ∙ ap (λ (p : Plain). length p.variables) same;
    each = λ variable size at. ring_size variable size (are.each variable size at);
  }

  have_rings : HaveRings a (Listed ways) nexts → HaveRings b (Listed ways) nexts
  have_rings (rings, are, small) = (rings, same_rings rings are, small)

  pub same_sizes : (sizes : Sizes) → AreSizes a (Listed ways) nexts sizes → AreSizes b (Listed ways) nexts sizes
  same_sizes sizes are = record {
    rings = same_rings sizes.rings are.rings;
    small_rings = are.small_rings;
    queues = same_queues ways nexts a b same sizes.queues are.queues;
    small_queues = are.small_queues;
    outboxes = same_outboxes ways nexts a b same sizes.outboxes are.outboxes;
  }

  pub same_counting : CanCount a (Listed ways) nexts → CanCount b (Listed ways) nexts
  same_counting can stream passes = can stream (passes_table ways nexts b a (sym same) stream passes)

  keeps_queue : (stream : ℕ) → KeepsQueue a (Listed ways) nexts stream → KeepsQueue b (Listed ways) nexts stream
  keeps_queue stream keeps = record {
    counted = λ passes. keeps.counted (passes_table ways nexts b a (sym same) stream passes);
    size = keeps.size;
    is_size = queue_size ways nexts a b same stream keeps.size keeps.is_size;
    small = keeps.small;
  }

  stream_known : (stream : ℕ) → stream < length a.streams → stream < length b.streams
  stream_known stream = subst (λ (p : Plain). stream < length p.streams) same

  large_table : (stream : ℕ) → IsLargeTable a (Listed ways) nexts stream → IsLargeTable b (Listed ways) nexts stream
  large_table stream is = record {
    known = stream_known stream is.known;
    passes = passes_table ways nexts a b same stream is.passes;
    earlier = λ before less. keeps_queue before (is.earlier before less);
  }

  large_queue : (stream : ℕ) → IsLargeQueue a (Listed ways) nexts stream → IsLargeQueue b (Listed ways) nexts stream
  large_queue stream is = record {
    known = stream_known stream is.known;
    counted = λ passes. is.counted (passes_table ways nexts b a (sym same) stream passes);
    size = is.size;
    is_size = queue_size ways nexts a b same stream is.size is.is_size;
    passes = is.passes;
    earlier = λ before less. keeps_queue before (is.earlier before less);
  }

-- ---- faults

module _ (ways : WayLists) (nexts : List (List (List ℕ))) (a b : Whole) (same : plain a nexts ≡ plain b nexts) where
  large_ring : (variable : ℕ) → IsLargeRing a (Listed ways) nexts variable → IsLargeRing b (Listed ways) nexts variable
  large_ring variable is = record {
    size = is.size;
    is_size = ring_size ways nexts a b same variable is.size is.is_size;
    passes = is.passes;
    earlier = λ before size less its. is.earlier before size less (ring_size ways nexts b a (sym same) before size its);
  }

  pub same_faults : (fault : SizeFault) → IsFaultBy a (Listed ways) nexts fault → IsFaultBy b (Listed ways) nexts fault
  same_faults (LargeRing variable) is = large_ring variable is
  same_faults (Cells stream) (have, is) = (have_rings ways nexts a b same have, large_table ways nexts a b same stream is)
  same_faults (LargeQueue stream) (have, is) = (have_rings ways nexts a b same have, large_queue ways nexts a b same stream is)
  same_faults Memory never = never
