-- A stream's queue has one size; and all queues keep their limits, or a first stream is at fault.
use Rattle.std.proofs.Common.{◌≡◌, ◌⊎◌, ℕ, zero, suc, ◌<◌, ◌≤◌, Bool, true, false, List, length, refl, sym, subst, ◌∙◌, eq-or-lt_of_le, inl, inr, arith}
use Rattle.std.specs.List.{All}
use Rattle.std.proofs.lemmas.Bool.{cases_lt}
use Rattle.std.proofs.lemmas.List.{ext_get_or}
use Rattle.std.proofs.lemmas.Option.{slice_get-get_or}
use Rattle.psy_base.specs.declared.limits.TheConstants.{QUEUE}
use Rattle.psy_lists.proofs.lemmas.Places.{listed}
use Rattle.psy_tree.specs.declared.unit.Unit.{Unit as Whole}
use Rattle.psy_meaning.specs.KnownWays.{Ways, is_sent}
use Rattle.psy_meaning.specs.QueueSizes.{AreQueues, IsLargeQueue, IsLargeTable, IsQueueSize, IsSizeFor, IsSpreadBelow, IsWindow, KeepsQueue, PassesTable}
use Rattle.psy_tree.specs.Parts.{stream_at}
use Rattle.psy_sizes.proofs.SpreadSums.{same_below, below_some}
use Rattle.psy_sizes.proofs.PassedTables.{table_told}
use Rattle.psy_sizes.proofs.Told.{AreTold}
use Rattle.psy_sizes.proofs.WindowsOf.{same_window, window_some}

module _ (unit : Whole) (ways : Ways) (nexts : List (List (List ℕ))) (its : AreTold unit ways nexts) where
  -- ---- one size

  -- Whoever sends to it
  same_for : (stream n m : ℕ) (b : Bool) → IsSizeFor unit ways nexts stream n b → IsSizeFor unit ways nexts stream m b → n ≡ m
  same_for stream n m false a b = a ∙ sym b
  same_for stream n m true (window, is, below) (other, also, below_also) =
      let windows = same_window unit ways nexts stream window other is also in
      let agents = length unit.agents in
      same_below unit ways nexts stream window its.one_graph its.one_weight (λ agent less from to k l. its.one_most agent less from to stream k l) agents n m (omega arith) below
      (subst (λ w. IsSpreadBelow unit ways nexts stream w agents m) (sym windows) below_also)

  -- A stream's queue has one size.
  pub same_size : (stream n m : ℕ) → IsQueueSize unit ways nexts stream n → IsQueueSize unit ways nexts stream m → n ≡ m
  same_size stream n m = same_for stream n m (is_sent ways stream)

  -- All queues have one list of sizes.
  pub same_queues : (queues others : List ℕ) → AreQueues unit ways nexts queues → AreQueues unit ways nexts others → queues ≡ others
  same_queues queues others a b = ext_get_or 0 queues others (a.count ∙ sym b.count) (λ stream less.
      same_size stream _ _ (a.each stream _ (slice_get-get_or queues stream 0 less)) (b.each stream _ (slice_get-get_or others stream 0 (omega (arith, less, a.count, b.count)))))

  -- ---- some size

  -- A stream of the unit has a number of dates for which a message may be held.
  window_of : (stream : ℕ) → stream < length unit.streams → (window : ℕ) × IsWindow unit ways nexts stream window
  window_of stream less =
      let (graph, drawn, fit) = its.graph_of (stream_at unit stream).receiver (its.bare.streams stream _ less).receiver in
      window_some unit ways nexts stream graph drawn

  -- Whoever sends to it, its queue has a size.
  size_for : (stream : ℕ) → stream < length unit.streams → (b : Bool) → (n : ℕ) × IsSizeFor unit ways nexts stream n b
  size_for stream less false = (0, refl)
  size_for stream less true =
      let (window, is) = window_of stream less in
      let (n, below) = below_some unit ways nexts stream window its.some_weight (λ agent inside from to n. its.few agent inside from to stream n) (λ agent inside from to. its.some_most agent inside from to stream) its.graph_of (length unit.agents) (omega arith) in
      (n, (window, is, below))

  -- Whether a table for it has too many cells can be told.
  passes_or_not : (stream : ℕ) → stream < length unit.streams → PassesTable unit ways nexts stream ⊎ (PassesTable unit ways nexts stream → ⊥)
  passes_or_not stream less =
      let (window, is) = window_of stream less in
      table_told unit ways nexts stream its.one_graph window is (λ agent inside. let (graph, drawn, fit) = its.graph_of agent inside in (graph, drawn))

  -- ---- the first at fault

  -- The queues of the streams before this one keep their limits.
  abbrev KeepBefore : ℕ → Type 0
  KeepBefore stream = (before : ℕ) → before < stream → KeepsQueue unit ways nexts before

  -- The first stream that doesn't keep its limits
  abbrev pub IsFirst : ℕ → Type 0
  IsFirst stream = (KeepsQueue unit ways nexts stream → ⊥) × KeepBefore stream

  -- No first one stands before another.
  not_before : (stream other : ℕ) → IsFirst stream → IsFirst other → stream < other → ⊥
  not_before stream other a b less = a.0 (b.1 stream less)

  -- So there is only one.
  pub one_first : (stream other : ℕ) → IsFirst stream → IsFirst other → stream ≡ other
  one_first stream other a b = grind (arith, not_before stream other a b, not_before other stream b a)

  -- A stream at fault by a table is the first,
  pub table_first : (stream : ℕ) → IsLargeTable unit ways nexts stream → IsFirst stream
  table_first stream large = (λ keeps. keeps.counted large.passes, large.earlier)

  -- and so is one at fault by its size.
  pub queue_first : (stream : ℕ) → IsLargeQueue unit ways nexts stream → IsFirst stream
  queue_first stream large = (λ keeps. let same = same_size stream keeps.size large.size keeps.is_size large.is_size in omega (arith, same, keeps.small, large.passes), large.earlier)

  -- A first stream is at fault.
  abbrev pub IsAtFault : Type 0
  IsAtFault = ((stream : ℕ) × IsLargeTable unit ways nexts stream) ⊎ ((stream : ℕ) × IsLargeQueue unit ways nexts stream)

  -- One more that keeps its limits
  one_more : (stream : ℕ) → KeepBefore stream → KeepsQueue unit ways nexts stream → KeepBefore (suc stream)
  one_more stream before keeps k less = elim (eq-or-lt_of_le {n = k} {m = stream} (omega (arith, less))) [
    | inl is ↦ subst (KeepsQueue unit ways nexts) (sym is) keeps
    | inr under ↦ before k under
  ]

  -- A stream that can be counted keeps its limits or is the first at fault,
  small_or_large : (stream : ℕ) → stream < length unit.streams → KeepBefore stream → (PassesTable unit ways nexts stream → ⊥) → KeepsQueue unit ways nexts stream ⊎ IsAtFault
  small_or_large stream less before counted =
      let (size, is) = size_for stream less (is_sent ways stream) in
      elim (cases_lt QUEUE size) [
        | inl passes ↦ inr (inr (stream, record { known = less; counted = counted; size = size; is_size = is; passes = passes; earlier = before }))
        | inr small ↦ inl (record { counted = counted; size = size; is_size = is; small = small })
      ]

  -- and so does each stream.
  keeps_or_not : (stream : ℕ) → stream < length unit.streams → KeepBefore stream → KeepsQueue unit ways nexts stream ⊎ IsAtFault
  keeps_or_not stream less before = elim (passes_or_not stream less) [
    | inl passes ↦ inr (inl (stream, record { known = less; passes = passes; earlier = before }))
    | inr counted ↦ small_or_large stream less before counted
  ]

  -- So the streams before one keep their limits, or one is at fault.
  told_before : (stream : ℕ) → stream ≤ length unit.streams → KeepBefore stream ⊎ IsAtFault
  told_before zero few = inl (λ k less. absurd (omega (arith, less)))
  told_before (suc stream) few = elim (told_before stream (omega (arith, few))) [
    | inl before ↦ elim (keeps_or_not stream (omega (arith, few)) before) [
      | inl keeps ↦ inl (one_more stream before keeps)
      | inr fault ↦ inr fault
    ]
    | inr fault ↦ inr fault
  ]

  -- Where all keep their limits, there is a list of their sizes.
  queues_listed : KeepBefore (length unit.streams) → (queues : List ℕ) × AreQueues unit ways nexts queues × All (λ size. size ≤ QUEUE) queues
  queues_listed keep =
      let Has : ℕ → ℕ → Type 0 = λ stream size. IsQueueSize unit ways nexts stream size × (size ≤ QUEUE) in
      let (queues, count, each) = listed Has (length unit.streams) (λ stream less. let keeps = keep stream less in (keeps.size, (keeps.is_size, keeps.small))) in (
        queues,
        record { count = count; each = λ stream size at. (each stream size at).0 },
        λ k d less. (each k _ (slice_get-get_or queues k d less)).1,
      )

  -- All queues keep their limits and no table has too many cells, or a first stream is at fault.
  pub queues_or_fault : ((queues : List ℕ) × AreQueues unit ways nexts queues × All (λ size. size ≤ QUEUE) queues × ((stream : ℕ) → PassesTable unit ways nexts stream → ⊥)) ⊎ IsAtFault
  queues_or_fault = elim (told_before (length unit.streams) (omega arith)) [
    | inl keep ↦ (let (queues, are, small) = queues_listed keep in inl (queues, are, small, λ stream passes. (keep stream (its.declared stream passes)).counted passes))
    | inr fault ↦ inr fault
  ]
