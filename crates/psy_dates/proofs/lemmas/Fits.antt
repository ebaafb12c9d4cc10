-- What is known of a plan that fits: its code goes well by the plan's ways, and its buffers have the sizes that these ask for.
use Rattle.std.proofs.Common.{◌≡◌, ℕ, ◌<◌, ◌≤◌, List, length, get_or, sym, ap, subst, ◌∙◌, arith}
use Rattle.std.specs.Prelude.{ℤ}
use Rattle.std.proofs.lemmas.List.{length-map}
use Rattle.std.proofs.lemmas.Option.{slice_get-get_or}
use Rattle.psy_base.specs.declared.limits.TheConstants.{QUEUE, RING}
use Rattle.psy_base.specs.declared.ways.Ways.{Ways as WayLists}
use Rattle.psy_base.specs.Extremes.{IsGreatest}
use Rattle.psy_budget.specs.declared.charge.Stall.{Stall}
use Rattle.psy_code.specs.declared.code.Code.{Code}
use Rattle.psy_tree.specs.declared.unit.Unit.{Unit as Whole}
use Rattle.psy_history.specs.Actions.{Opening, System}
use Rattle.psy_history.specs.Compiled.{AreInputs, coded}
use Rattle.psy_history.specs.Fitting.{FitsBy}
use Rattle.psy_history.specs.Openings.{IsSound}
use Rattle.psy_history.specs.Runs.{IsRun}
use Rattle.psy_meaning.specs.KnownWays.{Listed, Ways}
use Rattle.psy_meaning.specs.QueueSizes.{HasSendsTo, IsQueueSize}
use Rattle.psy_meaning.specs.RingSizes.{IsRingSize}
use Rattle.psy_dates.specs.declared.plan.Plan.{Plan}
use Rattle.psy_dates.specs.Plans.{IsPlan, IsSoundFor, opened_of, system_of}

-- Code that fits goes well.
abbrev pub GoWell : Type 0
GoWell = (unit : Whole) (code : Code) (ways : WayLists) (stalls : ℕ → List Stall) (inputs : List (List ℤ)) → FitsBy unit code ways → AreInputs unit inputs → IsRun (coded unit code ways.nexts stalls inputs) (Listed ways) code

-- So does it from each sound opening.
abbrev pub GoOn : Type 0
GoOn = (s : System) (opening : Opening) (ways : Ways) (code : Code) → IsRun s ways code → IsSound (record s { opening = opening }) ways code → IsRun (record s { opening = opening }) ways code

module _ (plan : Plan) (is : IsPlan plan) where
  -- ---- runs

  pub goes_well : GoWell → (inputs : List (List ℤ)) (stalls : ℕ → List Stall) → AreInputs plan.unit inputs → IsRun (system_of plan inputs stalls) (Listed is.ways) plan.code
  goes_well well inputs stalls are = subst (λ nexts. IsRun (coded plan.unit plan.code nexts stalls inputs) (Listed is.ways) plan.code) is.nexts (well plan.unit plan.code is.ways stalls inputs is.fits are)

  pub goes_well_from : GoWell → GoOn → (opening : Opening) (inputs : List (List ℤ)) (stalls : ℕ → List Stall) → AreInputs plan.unit inputs → IsSoundFor plan opening inputs stalls → IsRun (opened_of plan opening inputs stalls) (Listed is.ways) plan.code
  goes_well_from well on opening inputs stalls are sound = on (system_of plan inputs stalls) opening (Listed is.ways) plan.code (goes_well well inputs stalls are) (sound is)

  -- there are points that follow for each agent
  pub nexts_count : length plan.nexts ≡ length plan.unit.agents
  nexts_count =
      ap length (sym is.nexts) ∙ sym (length-map is.ways.nexts (λ list. length list)) ∙ ap length is.fits.lists.nexts.counts ∙ length-map plan.unit.agents (λ a. length a.points)

  -- ---- buffers

  pub ring_size : (variable : ℕ) → variable < length plan.unit.variables → IsRingSize plan.unit (Listed is.ways) plan.nexts variable (get_or plan.sizes.rings variable 0)
  ring_size variable less = is.buffers.rings.each variable (get_or plan.sizes.rings variable 0) (slice_get-get_or plan.sizes.rings variable 0 (omega (arith, less, is.buffers.rings.count)))

  pub small_ring : (variable : ℕ) → variable < length plan.unit.variables → get_or plan.sizes.rings variable 0 ≤ RING
  small_ring variable less = is.buffers.small_rings variable 0 (omega (arith, less, is.buffers.rings.count))

  pub queue_size : (stream : ℕ) → stream < length plan.unit.streams → IsQueueSize plan.unit (Listed is.ways) plan.nexts stream (get_or plan.sizes.queues stream 0)
  queue_size stream less = is.buffers.queues.each stream (get_or plan.sizes.queues stream 0) (slice_get-get_or plan.sizes.queues stream 0 (omega (arith, less, is.buffers.queues.count)))

  pub small_queue : (stream : ℕ) → stream < length plan.unit.streams → get_or plan.sizes.queues stream 0 ≤ QUEUE
  small_queue stream less = is.buffers.small_queues stream 0 (omega (arith, less, is.buffers.queues.count))

  pub outbox_size : (agent : ℕ) → agent < length plan.unit.agents → IsGreatest (HasSendsTo plan.unit (Listed is.ways) plan.nexts agent) (get_or plan.sizes.outboxes agent 0)
  outbox_size agent less = is.buffers.outboxes.each agent (get_or plan.sizes.outboxes agent 0) (slice_get-get_or plan.sizes.outboxes agent 0 (omega (arith, less, is.buffers.outboxes.count)))
