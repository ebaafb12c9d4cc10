-- The sizes of all buffers of a program, and the fault where there are none: one of both, and only one.
use Rattle.std.proofs.Common.{◌≡◌, ◌⊎◌, ℕ, ◌<◌, ◌≤◌, List, [], length, get_or, sym, ap, subst, ◌∙◌, inl, inr, arith}
use Rattle.std.specs.List.{All}
use Rattle.std.proofs.lemmas.List.{ext_get_or}
use Rattle.std.proofs.lemmas.List.Elements.{Contains-get_or}
use Rattle.std.proofs.lemmas.Option.{slice_get-get_or}
use Rattle.psy_base.specs.declared.limits.TheConstants.{QUEUE, RING}
use Rattle.psy_base.specs.declared.sizes.Sizes.{Sizes}
use Rattle.psy_lists.proofs.lemmas.Places.{listed}
use Rattle.psy_tree.specs.declared.unit.Unit.{Unit as Whole}
use Rattle.psy_meaning.specs.BufferSizes.{AreSizes}
use Rattle.psy_tree.specs.Parts.{agent_at}
use Rattle.psy_base.specs.Extremes.{IsGreatest}
use Rattle.psy_meaning.specs.KnownWays.{Ways}
use Rattle.psy_meaning.specs.QueueSizes.{AreOutboxes, HasSendsTo, IsLargeQueue, IsLargeTable, PassesTable}
use Rattle.psy_meaning.specs.RingSizes.{AreRings, IsLargeRing}
use Rattle.psy_sizes.specs.declared.fault.SizeFault.{SizeFault}
use Rattle.psy_sizes.specs.declared.fault.SizeFault.TheVariants.{LargeRing, Cells, LargeQueue, Memory}
use Rattle.psy_sizes.specs.Faults.{CanCount, HaveRings, IsFaultBy}
use Rattle.psy_sizes.proofs.AllRings.{same_sizes, same_large, rings_apart}
use Rattle.psy_sizes.proofs.QueuesOf.{IsAtFault, one_first, queue_first, queues_or_fault, same_queues, same_size, table_first}
use Rattle.psy_sizes.proofs.SomeOutboxes.{outbox_some}
use Rattle.psy_sizes.proofs.Told.{AreTold}
use Rattle.psy_sizes.proofs.WindowsOf.{same_greatest}

-- The sizes of rings, queues and outboxes together
abbrev some_sizes : List ℕ → List ℕ → List ℕ → Sizes
some_sizes rings queues outboxes = record { rings = rings; queues = queues; outboxes = outboxes }

module _ (unit : Whole) (ways : Ways) (nexts : List (List (List ℕ))) (its : AreTold unit ways nexts) where
  -- ---- one list of sizes

  -- All outboxes have one list of sizes.
  same_outboxes : (outboxes others : List ℕ) → AreOutboxes unit ways nexts outboxes → AreOutboxes unit ways nexts others → outboxes ≡ others
  same_outboxes outboxes others a b = ext_get_or 0 outboxes others (a.count ∙ sym b.count) (λ agent less.
      same_greatest (HasSendsTo unit ways nexts agent) _ _ (a.each agent _ (slice_get-get_or outboxes agent 0 less)) (b.each agent _ (slice_get-get_or others agent 0 (omega (arith, less, a.count, b.count)))))

  -- All buffers have one.
  pub same_buffers : (sizes others : Sizes) → AreSizes unit ways nexts sizes → AreSizes unit ways nexts others → sizes ≡ others
  same_buffers sizes others a b =
      ap (λ rings. some_sizes rings sizes.queues sizes.outboxes) (same_sizes unit ways nexts sizes.rings others.rings a.rings b.rings)
      ∙ ap (λ queues. some_sizes others.rings queues sizes.outboxes) (same_queues unit ways nexts its sizes.queues others.queues a.queues b.queues)
      ∙ ap (some_sizes others.rings others.queues) (same_outboxes sizes.outboxes others.outboxes a.outboxes b.outboxes)

  -- ---- sizes or a fault, not both

  -- No queue is too large where sizes keep their limits.
  small_queue : (sizes : Sizes) (stream : ℕ) → AreSizes unit ways nexts sizes → IsLargeQueue unit ways nexts stream → ⊥
  small_queue sizes stream are large =
      let less : stream < length sizes.queues = omega (arith, large.known, are.queues.count) in
      let small : get_or sizes.queues stream 0 ≤ QUEUE = are.small_queues stream 0 less in
      let same = same_size unit ways nexts its stream _ _ large.is_size (are.queues.each stream _ (slice_get-get_or sizes.queues stream 0 less)) in
      omega (arith, same, small, large.passes)

  -- No fault is there where sizes are.
  pub sizes_apart : (sizes : Sizes) (fault : SizeFault) → AreSizes unit ways nexts sizes → CanCount unit ways nexts → IsFaultBy unit ways nexts fault → ⊥
  sizes_apart sizes (LargeRing variable) are counted large = rings_apart unit ways nexts sizes.rings variable are.rings are.small_rings large
  sizes_apart sizes (Cells stream) are counted (rings, large) = counted stream large.passes
  sizes_apart sizes (LargeQueue stream) are counted (rings, large) = small_queue sizes stream are large
  sizes_apart sizes Memory are counted fault = fault

  -- ---- one fault

  -- A ring too large is no fault of a stream.
  ring_or_later : (variable : ℕ) → IsLargeRing unit ways nexts variable → HaveRings unit ways nexts → ⊥
  ring_or_later variable large (rings, are, small) = rings_apart unit ways nexts rings variable are small large

  -- A first table and a first queue aren't both at fault.
  not_both : (stream other : ℕ) → IsLargeTable unit ways nexts stream → IsLargeQueue unit ways nexts other → ⊥
  not_both stream other table queue =
      let same = one_first unit ways nexts its stream other (table_first unit ways nexts its stream table) (queue_first unit ways nexts its other queue) in
      queue.counted (subst (PassesTable unit ways nexts) same table.passes)

  -- There is one fault.
  pub same_fault : (fault other : SizeFault) → IsFaultBy unit ways nexts fault → IsFaultBy unit ways nexts other → fault ≡ other
  same_fault (LargeRing m) (LargeRing n) a b = ap LargeRing (same_large unit ways nexts m n a b)
  same_fault (LargeRing m) (Cells n) a (rings, b) = absurd (ring_or_later m a rings)
  same_fault (LargeRing m) (LargeQueue n) a (rings, b) = absurd (ring_or_later m a rings)
  same_fault (Cells m) (LargeRing n) (rings, a) b = absurd (ring_or_later n b rings)
  same_fault (Cells m) (Cells n) (rings, a) (others, b) = ap Cells (one_first unit ways nexts its m n (table_first unit ways nexts its m a) (table_first unit ways nexts its n b))
  same_fault (Cells m) (LargeQueue n) (rings, a) (others, b) = absurd (not_both m n a b)
  same_fault (LargeQueue m) (LargeRing n) (rings, a) b = absurd (ring_or_later n b rings)
  same_fault (LargeQueue m) (Cells n) (rings, a) (others, b) = absurd (not_both n m b a)
  same_fault (LargeQueue m) (LargeQueue n) (rings, a) (others, b) = ap LargeQueue (one_first unit ways nexts its m n (queue_first unit ways nexts its m a) (queue_first unit ways nexts its n b))
  same_fault Memory other a b = absurd a
  same_fault (LargeRing m) Memory a b = absurd b
  same_fault (Cells m) Memory a b = absurd b
  same_fault (LargeQueue m) Memory a b = absurd b

  -- ---- sizes or a fault, at least one

  -- An agent's outbox has a size,
  outbox_of : (agent : ℕ) → agent < length unit.agents → (size : ℕ) × IsGreatest (HasSendsTo unit ways nexts agent) size
  outbox_of agent less =
      let timed = its.timed agent less in
      let list = get_or nexts agent [] in
      let to = get_or (get_or list 0 []) 0 0 in
      outbox_some ways agent (λ from upto stream n m. its.one_most agent less from upto stream n m) (λ from upto stream. its.some_most agent less from upto stream) (length unit.streams) list (length (agent_at unit agent).points) to timed.head
      (Contains-get_or (get_or list 0 []) 0 0 (omega (arith, timed.some 0 (omega (arith, timed.head)))))

  -- and so there is a list of them.
  outboxes_some : (outboxes : List ℕ) × AreOutboxes unit ways nexts outboxes
  outboxes_some =
      let (outboxes, count, each) = listed (λ agent. IsGreatest (HasSendsTo unit ways nexts agent)) (length unit.agents) outbox_of in
      (outboxes, record { count = count; each = each })

  -- The fault of a first stream
  fault_by : HaveRings unit ways nexts → IsAtFault unit ways nexts its → (fault : SizeFault) × IsFaultBy unit ways nexts fault
  fault_by rings (inl (stream, large)) = (Cells stream, (rings, large))
  fault_by rings (inr (stream, large)) = (LargeQueue stream, (rings, large))

  -- Where rings have sizes that keep the limit or one is too large, so it is with all buffers.
  pub sizes_or_fault : ((rings : List ℕ) × AreRings unit ways nexts rings × All (λ size. size ≤ RING) rings) ⊎ ((variable : ℕ) × IsLargeRing unit ways nexts variable) →
      ((sizes : Sizes) × AreSizes unit ways nexts sizes × CanCount unit ways nexts) ⊎ ((fault : SizeFault) × IsFaultBy unit ways nexts fault)
  sizes_or_fault (inr (variable, large)) = inr (LargeRing variable, large)
  sizes_or_fault (inl (rings, are_rings, small_rings)) = elim (queues_or_fault unit ways nexts its) [
    | inl (queues, are_queues, small_queues, counted) ↦ (let (outboxes, are_outboxes) = outboxes_some in inl (
      some_sizes rings queues outboxes,
      record { rings = are_rings; small_rings = small_rings; queues = are_queues; small_queues = small_queues; outboxes = are_outboxes },
      counted,
    ))
    | inr fault ↦ inr (fault_by (rings, are_rings, small_rings) fault)
  ]
