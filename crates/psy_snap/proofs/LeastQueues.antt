-- The sizes of a plan's buffers are the only ones that the ways ask for.
use Rattle.std.proofs.Common.{◌≡◌, ◌∙◌, ℕ, ◌<◌, ◌≤◌, inl, inr, List, length, get_or, set, sym, ap, subst, arith}
use Rattle.std.specs.Prelude.{slice_get, Some}
use Rattle.std.proofs.lemmas.Bool.{cases_eq, cases_lt}
use Rattle.std.proofs.lemmas.List.{get_or-set_other, get_or-set_same, length-set}
use Rattle.std.proofs.lemmas.List.Elements.{All-set}
use Rattle.std.proofs.lemmas.Option.{get_or_from_slice_get, same_Some, slice_get-get_or, slice_get_within}
use Rattle.psy_base.specs.declared.limits.TheConstants.{QUEUE}
use Rattle.psy_base.specs.declared.sizes.Sizes.{Sizes}
use Rattle.psy_base.specs.declared.ways.Ways.{Ways as WayLists}
use Rattle.psy_dates.specs.declared.plan.Plan.{Plan}
use Rattle.psy_dates.specs.Plans.{IsPlan}
use Rattle.psy_dates.proofs.lemmas.Fits.{ring_size, small_queue}
use Rattle.psy_graph.specs.declared.graph.Graph.{Graph}
use Rattle.psy_graph.specs.Graphs.{AreGraphsBy}
use Rattle.psy_meaning.specs.BufferSizes.{AreSizes}
use Rattle.psy_meaning.specs.KnownWays.{Listed}
use Rattle.psy_meaning.specs.ListedWays.{AreWaysFor}
use Rattle.psy_meaning.specs.QueueSizes.{IsQueueSize}
use Rattle.psy_meaning.specs.RingSizes.{IsRingSize}
use Rattle.psy_meaning.specs.Units.{IsBare}
use Rattle.psy_tree.specs.declared.unit.Unit.{Unit as Whole}

-- By ways that are given as lists there is one list of sizes at most.
abbrev pub OneSize : Type 0
OneSize = (unit : Whole) (ways : WayLists) (graphs : List Graph) (sizes others : Sizes) → IsBare unit → AreWaysFor unit ways → AreGraphsBy unit ways.nexts graphs
    → AreSizes unit (Listed ways) ways.nexts sizes → AreSizes unit (Listed ways) ways.nexts others → sizes ≡ others

module _ (one : OneSize) (plan : Plan) (its : IsPlan plan) (graphs : List Graph) (drawn : AreGraphsBy plan.unit plan.nexts graphs) where
  same_sizes : (others : Sizes) → AreSizes plan.unit (Listed its.ways) plan.nexts others → plan.sizes ≡ others
  same_sizes others are =
      one plan.unit its.ways graphs plan.sizes others its.fits.bare its.fits.lists (subst (λ nexts. AreGraphsBy plan.unit nexts graphs) (sym its.nexts) drawn)
      (subst (λ nexts. AreSizes plan.unit (Listed its.ways) nexts plan.sizes) (sym its.nexts) its.buffers)
      (subst (λ nexts. AreSizes plan.unit (Listed its.ways) nexts others) (sym its.nexts) are)

  module _ (stream size : ℕ) (less : stream < length plan.unit.streams) (is : IsQueueSize plan.unit (Listed its.ways) plan.nexts stream size) where
    abbrev queues : List ℕ
    queues = plan.sizes.queues

    abbrev with_size : Sizes
    with_size = record plan.sizes { queues = set queues stream size }

    there : stream < length queues
    there = omega (arith, less, its.buffers.queues.count)

    each : (i n : ℕ) → slice_get (set queues stream size) i ≡ Some n → IsQueueSize plan.unit (Listed its.ways) plan.nexts i n
    each i n at =
        let read : get_or (set queues stream size) i 0 ≡ n = get_or_from_slice_get (set queues stream size) i n 0 at in
        let within : i < length queues = omega (arith, slice_get_within (set queues stream size) i n at, length-set queues stream size) in
        elim (cases_eq i stream) [
          | inl same ↦ (
              let size_is : size ≡ n = sym (get_or-set_same queues stream size 0 there) ∙ ap (λ j. get_or (set queues stream size) j 0) (sym same) ∙ read in
              subst (λ j. IsQueueSize plan.unit (Listed its.ways) plan.nexts j n) (sym same) (subst (IsQueueSize plan.unit (Listed its.ways) plan.nexts stream) size_is is))
          | inr other ↦ its.buffers.queues.each i n
              (slice_get-get_or queues i 0 within ∙ ap Some (sym (get_or-set_other queues stream i size 0 other) ∙ read))
        ]

    sized : size ≤ QUEUE → AreSizes plan.unit (Listed its.ways) plan.nexts with_size
    sized small = record {
      rings = its.buffers.rings;
      small_rings = its.buffers.small_rings;
      queues = record { count = length-set queues stream size ∙ its.buffers.queues.count; each = each };
      small_queues = All-set (λ n. n ≤ QUEUE) queues stream size small its.buffers.small_queues;
      outboxes = its.buffers.outboxes;
    }

    -- The queue has no more places than its stream asks for.
    pub queue_least : get_or queues stream 0 ≤ size
    queue_least = elim (cases_lt size (get_or queues stream 0)) [
      | inl fewer ↦ (
          let same = same_sizes with_size (sized (omega (arith, fewer, small_queue plan its stream less))) in
          let is : get_or queues stream 0 ≡ size = ap (λ (s : Sizes). get_or s.queues stream 0) same ∙ get_or-set_same queues stream size 0 there in
          absurd (omega (arith, fewer, is)))
      | inr le ↦ le
    ]

-- A variable has one size of its ring.
module _ (plan : Plan) (its : IsPlan plan) (variable : ℕ) where
  abbrev IsRing : ℕ → Type 0
  IsRing size = IsRingSize plan.unit (Listed its.ways) plan.nexts variable size

  most_least : {size other : ℕ} → (a : IsRing size) → (b : IsRing other) → a.most ≤ b.most
  most_least a b = elim a.one [
    | inl none ↦ omega (arith, none)
    | inr passes ↦ b.all a.most passes
  ]

  same_ring : (size other : ℕ) → IsRing size → IsRing other → size ≡ other
  same_ring size other a b =
      let depth = ap (λ v. v.depth) (same_Some a.decl b.decl (sym a.declared ∙ b.declared)) in
      omega (arith, depth, a.sum, b.sum, most_least a b, most_least b a)

  -- There is such a variable, and its ring has that size.
  pub ring_is : (size : ℕ) → IsRing size → (variable < length plan.unit.variables) × (get_or plan.sizes.rings variable 0 ≡ size)
  ring_is size is =
      let less = slice_get_within plan.unit.variables variable is.decl is.declared in
      (less, same_ring (get_or plan.sizes.rings variable 0) size (ring_size plan its variable less) is)
