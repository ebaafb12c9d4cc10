-- An opening that is sound by the ways of a plan is sound by those of its statements, where its buffers have the sizes that these ask for.
use Rattle.std.proofs.Common.{◌≡◌, ◌∙◌, ℕ, suc, ◌<◌, ◌≤◌, Bool, false, inl, inr, List, length, get_or, Some, refl, sym, ap, subst, arith}
use Rattle.std.specs.Prelude.{ℤ, ◌==◌}
use Rattle.std.specs.List.{list_any}
use Rattle.std.proofs.lemmas.Bool.{cases_lt, eqb-true, false_from_ne_true}
use Rattle.std.proofs.lemmas.List.Folds.{Any-from_list_any}
use Rattle.std.proofs.lemmas.Option.{slice_get-get_or, slice_get_within}
use Rattle.psy_base.specs.declared.ways.SendWay.{SendWay}
use Rattle.psy_budget.specs.declared.charge.Stall.{Stall}
use Rattle.psy_dates.specs.declared.plan.Plan.{Plan}
use Rattle.psy_dates.specs.Plans.{IsPlan, opened_of}
use Rattle.psy_dates.proofs.lemmas.Fits.{queue_size, ring_size}
use Rattle.psy_history.specs.Actions.{Opening, System}
use Rattle.psy_history.specs.Openings.{AreInRing, IsSound}
use Rattle.psy_meaning.specs.BufferSizes.{AreSizes}
use Rattle.psy_meaning.specs.KnownWays.{Listed, OfText, is_sent}
use Rattle.psy_meaning.specs.QueueSizes.{IsQueueSize, IsSizeFor}
use Rattle.psy_meaning.specs.RingSizes.{IsRingSize}
use Rattle.psy_save.proofs.QueueSizes.{IsOneGraph, one_queue, one_ring}

module _ (one_graph : IsOneGraph) (plan : Plan) (its : IsPlan plan) (text : AreSizes plan.unit (OfText plan.unit) plan.nexts plan.sizes) (opening : Opening) (inputs : List (List ℤ)) (stalls : ℕ → List Stall)
    (sound : IsSound (opened_of plan opening inputs stalls) (Listed its.ways) plan.code) where
  abbrev system : System
  system = opened_of plan opening inputs stalls

  -- ---- rings

  abbrev IsRing : ℕ → ℕ → Type 0
  IsRing variable size = IsRingSize plan.unit (OfText plan.unit) plan.nexts variable size

  ring_is : (variable size : ℕ) → variable < length plan.unit.variables → IsRing variable size → get_or plan.sizes.rings variable 0 ≡ size
  ring_is variable size less is =
      one_ring plan.unit (OfText plan.unit) plan.nexts variable (get_or plan.sizes.rings variable 0) size
      (text.rings.each variable (get_or plan.sizes.rings variable 0) (slice_get-get_or plan.sizes.rings variable 0 (omega (arith, less, text.rings.count)))) is

  in_ring : (last variable : ℕ) → opening.dates ≡ suc last → variable < length plan.unit.variables → AreInRing system (OfText plan.unit) last variable (opening.published variable)
  in_ring last variable done less =
      let by_lists = sound.rings last variable done less in
      record {
        size = λ size is. by_lists.size (get_or plan.sizes.rings variable 0) (ring_size plan its variable less) ∙ ring_is variable size less is;
        first = by_lists.first;
      }

  reached : (variable size n : ℕ) → IsRing variable size → opening.reach variable ≡ Some n → n < size
  reached variable size n ring is =
      let less = slice_get_within plan.unit.variables variable ring.decl ring.declared in
      subst (λ m. n < m) (ring_is variable size less ring) (sound.reaches variable (get_or plan.sizes.rings variable 0) n (ring_size plan its variable less) is)

  -- ---- queues

  held_within : (stream size : ℕ) → stream < length plan.unit.streams → IsQueueSize plan.unit (OfText plan.unit) plan.nexts stream size → opening.most stream ≤ size
  held_within stream size less is =
      let own : ℕ = get_or plan.sizes.queues stream 0 in
      subst (λ m. opening.most stream ≤ m)
      (one_queue plan.unit plan.nexts one_graph stream own size (text.queues.each stream own (slice_get-get_or plan.sizes.queues stream 0 (omega (arith, less, text.queues.count)))) is)
      (sound.most stream own (queue_size plan its stream less))

  -- By its lists nobody sends to a stream that there isn't.
  unsent : (stream : ℕ) → length plan.unit.streams ≤ stream → is_sent (Listed its.ways) stream ≡ false
  unsent stream past = false_from_ne_true (is_sent (Listed its.ways) stream) (λ sent.
      let test : SendWay → Bool = λ way. way.stream == stream in
      let (agent, list, inside, at, some) = Any-from_list_any (list_any (list_any test)) its.ways.sends sent in
      let (point, ways, within, at_point, one) = Any-from_list_any (list_any test) list some in
      let (k, way, less, at_way, same) = Any-from_list_any test ways one in
      let are = its.fits.lists.sends.each agent point list ways (slice_get-get_or its.ways.sends agent list inside ∙ ap Some at) (slice_get-get_or list point ways within ∙ ap Some at_point) in
      omega (arith, past, ap (λ (w : SendWay). w.stream) at_way, eqb-true way.stream stream same, (are.known k way less).stream))

  held_none : (stream size : ℕ) → length plan.unit.streams ≤ stream → opening.most stream ≤ size
  held_none stream size past =
      let none = sound.most stream 0 (subst (IsSizeFor plan.unit (Listed its.ways) plan.nexts stream 0) (sym (unsent stream past)) refl) in omega (arith, none)

  most_held : (stream size : ℕ) → IsQueueSize plan.unit (OfText plan.unit) plan.nexts stream size → opening.most stream ≤ size
  most_held stream size is = elim (cases_lt stream (length plan.unit.streams)) [
    | inl less ↦ held_within stream size less is
    | inr past ↦ held_none stream size past
  ]

  -- ---- all of it

  pub sound_by_text : IsSound system (OfText plan.unit) plan.code
  sound_by_text = record {
    begins = sound.begins;
    known = sound.known;
    places = sound.places;
    starts = sound.starts;
    carries = sound.carries;
    committed = sound.committed;
    inputs = sound.inputs;
    published = sound.published;
    rings = in_ring;
    messages = sound.messages;
    counts = sound.counts;
    slacks = sound.slacks;
    reaches = reached;
    most = most_held;
  }
