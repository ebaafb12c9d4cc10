-- What a state without a fault says of the messages that streams hold, and all of it.
use Rattle.std.proofs.Common.{◌≡◌, ◌∙◌, ℕ, ◌+◌, ◌<◌, ◌≤◌, inl, inr, Bool, true, List, [], get_or, length, is_some, Option, Some, None, refl, sym, ap, subst, arith}
use Rattle.std.specs.Prelude.{ℤ, slice_get}
use Rattle.std.specs.List.{All}
use Rattle.std.proofs.lemmas.Bool.{cases_lt}
use Rattle.std.proofs.lemmas.List.{get_or_past}
use Rattle.std.proofs.lemmas.List.Elements.{All-nil}
use Rattle.std.proofs.lemmas.Option.{slice_get-get_or}
use Rattle.psy_base.specs.declared.message.Message.{Message}
use Rattle.psy_budget.specs.declared.charge.Stall.{Stall}
use Rattle.psy_code.specs.Views.{found_in}
use Rattle.psy_dates.specs.declared.opening.AgentOpening.{AgentOpening}
use Rattle.psy_dates.specs.declared.opening.Begun.{Begun}
use Rattle.psy_dates.specs.declared.opening.Opening.{Opening as State}
use Rattle.psy_dates.specs.declared.opening.StreamOpening.{StreamOpening}
use Rattle.psy_dates.specs.declared.plan.Plan.{Plan}
use Rattle.psy_dates.specs.Beginnings.{agent_in, behind, starts_by, stream_in}
use Rattle.psy_dates.specs.Plans.{IsPlan, IsSoundFor, opened_of}
use Rattle.psy_graph.specs.declared.graph.Graph.{Graph}
use Rattle.psy_graph.specs.Graphs.{AreGraphsBy}
use Rattle.psy_history.specs.Actions.{Next, System, first_action, stream_of}
use Rattle.psy_history.specs.Executors.{by_code}
use Rattle.psy_history.specs.Openings.{AreHeldBefore, HasBegun, IsHeldBefore}
use Rattle.psy_meaning.specs.KnownWays.{Listed}
use Rattle.psy_meaning.specs.QueueSizes.{IsQueueSize}
use Rattle.psy_snap.specs.Bytes.{spelling}
use Rattle.psy_snap.specs.Faults.{faults_of, least_fault}
use Rattle.psy_snap.specs.Forms.{agent_form, form_of, stream_form}
use Rattle.psy_snap.specs.Ranges.{FitsMessage, FitsState}
use Rattle.psy_snap.specs.Reading.{begun_in}
use Rattle.psy_snap.specs.Shapes.{HasForm}
use Rattle.psy_snap.proofs.AgentsFound.{CanBe, IsAgentRight}
use Rattle.psy_snap.proofs.AgentsSound.{agents_count, begins, carries, counts, known, places, slacks, starts_alike}
use Rattle.psy_snap.proofs.LeastQueues.{OneSize, queue_least}
use Rattle.psy_snap.proofs.MessagesFound.{IsMessageRight, IsStreamRight}
use Rattle.psy_snap.proofs.MessagesRise.{each_from, rise_from}
use Rattle.psy_snap.proofs.PartsRight.{number_right, parts_count}
use Rattle.psy_snap.proofs.StatesFound.{IsStateRight, state_right}
use Rattle.psy_snap.proofs.VariablesSound.{committed, of_inputs, published, reaches, rings}
use Rattle.psy_tree.specs.Parts.{no_stream, stream_at}

abbrev no_opening : AgentOpening
no_opening = record { begun = None; count = 0; slack = None }

abbrev no_messages : StreamOpening
no_messages = record { held = 0; messages = [] }

module _ (one : OneSize) (plan : Plan) (its : IsPlan plan) (graphs : List Graph) (drawn : AreGraphsBy plan.unit plan.nexts graphs) (state : State) (has : HasForm (form_of plan graphs) state)
    (fits : FitsState state) (right : IsStateRight (form_of plan graphs) state) (inputs : List (List ℤ)) (stalls : ℕ → List Stall) where
  abbrev system : System
  system = opened_of plan (behind plan state) inputs stalls

  -- ---- the streams of the state

  streams_count : length state.streams ≡ length plan.unit.streams
  unfolding form_of
  streams_count = parts_count (IsStreamRight state.date state.agents) (stream_form plan) (length plan.unit.streams) state.streams right.streams

  stream_right : (stream : ℕ) → stream < length plan.unit.streams → IsStreamRight state.date state.agents (stream_form plan stream) (stream_in state stream)
  unfolding form_of
  stream_right stream less = number_right (IsStreamRight state.date state.agents) (stream_form plan) (length plan.unit.streams) state.streams right.streams stream no_messages less

  -- ---- who has begun

  agents_are : length state.agents ≡ length plan.unit.agents
  agents_are = agents_count plan its graphs drawn state has fits right inputs stalls

  -- One that hasn't begun starts behind the date.
  begun_by : (agent : ℕ) (begun : Option Begun) → CanBe state.date (agent_form plan graphs agent) begun
      → ((n : Next) → starts_by plan state.date agent begun ≡ Some n → n.start < state.date + 1) → is_some begun ≡ true
  unfolding agent_form
  begun_by agent None can early = absurd (omega (arith, can, early (first_action plan.unit plan.nexts (by_code plan.code) agent) refl))
  begun_by agent (Some begun) can early = refl

  agent_can : (agent : ℕ) → agent < length plan.unit.agents → CanBe state.date (agent_form plan graphs agent) (agent_in state agent).begun
  unfolding form_of
  agent_can agent less = (number_right (IsAgentRight state.date) (agent_form plan graphs) (length plan.unit.agents) state.agents right.agents agent no_opening less).can

  has_begun : (agent : ℕ) → agent < length plan.unit.agents → HasBegun system agent → begun_in state.agents agent ≡ true
  has_begun agent less begun =
      let at : slice_get state.agents agent ≡ Some (agent_in state agent) = slice_get-get_or state.agents agent no_opening (omega (arith, less, agents_are)) in
      begun_by agent (agent_in state agent).begun (agent_can agent less)
      (λ n is. begun n (ap (λ o. found_in o (λ (a : AgentOpening). starts_by plan state.date agent a.begun)) at ∙ is))

  -- ---- messages

  -- What is right of a message, and its value
  abbrev HeldBy : Bool → Message → Type 0
  HeldBy begun m = (before : List Message) × IsMessageRight state.date (length state.agents) begun before m

  held_before : (stream : ℕ) (m : Message) (begun : Bool) → (HasBegun system (stream_of system stream).receiver → begun ≡ true) → FitsMessage m → HeldBy begun m → IsHeldBefore system stream m
  held_before stream m begun begins small (before, it) = record {
    entered = omega (arith, it.entered);
    visible = it.visible;
    late = it.late;
    fresh = λ has. omega (arith, it.fresh (begins has));
    sender = omega (arith, it.sender, agents_are);
    near = it.near;
    value = small.value;
  }

  held_there : (stream : ℕ) → stream < length plan.unit.streams → AreHeldBefore system stream (stream_in state stream).messages
  unfolding stream_form
  held_there stream less =
      let is = stream_right stream less in
      let receiver : ℕ = (stream_at plan.unit stream).receiver in
      let begun : Bool = begun_in state.agents receiver in
      let messages : List Message = (stream_in state stream).messages in
      let small : All FitsMessage messages = (fits.streams stream no_messages (omega (arith, less, streams_count))).messages in
      let each : All (HeldBy begun) messages = each_from state.date (length state.agents) begun (HeldBy begun) (λ before m it. (before, it)) [] messages is.messages in
      record {
        each = λ i d there. held_before stream (get_or messages i d) begun (has_begun receiver (its.fits.bare.streams stream no_stream less).receiver) (small i d there) (each i d there);
        rise = rise_from state.date (length state.agents) begun [] messages is.messages;
        few = is.few;
      }

  held_none : (stream : ℕ) → AreHeldBefore system stream []
  held_none stream = record { each = All-nil (IsHeldBefore system stream); rise = λ i j d less there. absurd (omega (arith, there)); few = omega arith }

  messages : (stream : ℕ) → AreHeldBefore system stream (system.opening.messages stream)
  messages stream = elim (cases_lt stream (length plan.unit.streams)) [
    | inl less ↦ held_there stream less
    | inr le ↦ subst (λ (s : StreamOpening). AreHeldBefore system stream s.messages) (sym (get_or_past state.streams stream no_messages (omega (arith, le, streams_count)))) (held_none stream)
  ]

  -- ---- the most that were held

  held_less : (stream : ℕ) → stream < length plan.unit.streams → (stream_in state stream).held ≤ get_or plan.sizes.queues stream 0
  unfolding stream_form
  held_less stream less = (stream_right stream less).held

  most : (stream size : ℕ) → IsQueueSize plan.unit (Listed its.ways) plan.nexts stream size → system.opening.most stream ≤ size
  most stream size is = elim (cases_lt stream (length plan.unit.streams)) [
    | inl less ↦ omega (arith, held_less stream less, queue_least one plan its graphs drawn stream size less is)
    | inr le ↦ omega (arith, ap (λ (s : StreamOpening). s.held) (get_or_past state.streams stream no_messages (omega (arith, le, streams_count))))
  ]

-- ---- all of it

-- A run may go on from it, by whatever ways the plan fits.
pub state_sound : OneSize → (plan : Plan) (graphs : List Graph) → AreGraphsBy plan.unit plan.nexts graphs → (state : State) → HasForm (form_of plan graphs) state → FitsState state
    → least_fault (faults_of (form_of plan graphs) (spelling state)) ≡ None → (inputs : List (List ℤ)) (stalls : ℕ → List Stall) → IsSoundFor plan (behind plan state) inputs stalls
state_sound one plan graphs drawn state has fits none inputs stalls its =
    let right = state_right (form_of plan graphs) state has fits none in
    record {
      begins = begins plan its graphs drawn state has fits right inputs stalls;
      known = known plan its graphs drawn state has fits right inputs stalls;
      places = places plan its graphs drawn state has fits right inputs stalls;
      starts = starts_alike plan its graphs drawn state has fits right inputs stalls;
      carries = carries plan its graphs drawn state has fits right inputs stalls;
      committed = committed plan its graphs state has fits right inputs stalls;
      inputs = of_inputs plan its graphs state has fits right inputs stalls;
      published = published plan its graphs state has fits right inputs stalls;
      rings = rings plan its graphs state has fits right inputs stalls;
      messages = messages one plan its graphs drawn state has fits right inputs stalls;
      counts = counts plan its graphs drawn state has fits right inputs stalls;
      slacks = slacks plan its graphs drawn state has fits right inputs stalls;
      reaches = reaches plan its graphs state has fits right inputs stalls;
      most = most one plan its graphs drawn state has fits right inputs stalls;
    }
