-- What the agents share of streams stands for the history up to a date, where it stood for the dates before.
use Rattle.std.proofs.Common.{◌≡◌, ℕ, suc, ◌+◌, ◌-◌, ◌<◌, ◌≤◌, Bool, true, false, List, [], ◌∷◌, All, length, get_or, Option, Some, refl, sym, ap, subst, ◌∙◌, inl, inr, arith, length-take}
use Rattle.std.specs.Prelude.{if◌then◌else◌, slice_get, ◌==◌, ℤ}
use Rattle.std.specs.List.{count_by}
use Rattle.std.proofs.lemmas.Bool.{cases_lt, eqb-true}
use Rattle.std.proofs.lemmas.Option.{get_or_from_slice_get, same_Some, slice_get-get_or, slice_get_past, slice_get_within}
use Rattle.psy_base.specs.declared.message.Message.{Message}
use Rattle.psy_budget.specs.declared.charge.Stall.{Stall}
use Rattle.psy_code.specs.declared.look.Sent.{Sent}
use Rattle.psy_queue.specs.Order.{Queued}
use Rattle.psy_tree.specs.declared.unit.StreamDecl.{StreamDecl}
use Rattle.psy_history.specs.Actions.{Action, Opening, System, Verdict, Done, Trapped, Overran}
use Rattle.psy_history.specs.History.{history}
use Rattle.psy_meaning.specs.Kept.{IsSentOf}
use Rattle.psy_tree.specs.Parts.{stream_at}
use Rattle.psy_history.specs.Schedule.{Turn, units}
use Rattle.psy_meaning.specs.Timing.{first_date}
use Rattle.psy_meaning.specs.Units.{IsBare}
use Rattle.psy_history.specs.Visible.{message_of, messages_from, taken}
use Rattle.psy_history.specs.Queues.{ends_at as ended_at, entered, entering, entering_of, queue_of, settled}
use Rattle.psy_history.specs.Regular.{IsLawful, first_number}
use Rattle.psy_dates.specs.declared.plan.Plan.{Plan}
use Rattle.psy_dates.specs.declared.seat.Phase.TheVariants as phase
use Rattle.psy_dates.specs.declared.seat.Seat.{Seat}
use Rattle.psy_dates.specs.declared.shared.Shared.{Shared}
use Rattle.psy_dates.specs.Messages.{HaveRoom, nowhere, sends_of, sent_by, sent_from, settled_then, with_entered}
use Rattle.psy_dates.specs.Moves.{ends_at, seat_then, timing_in}
use Rattle.psy_dates.specs.Outboxes.{Outboxed}
use Rattle.psy_dates.specs.Plans.{opened_of, system_of}
use Rattle.psy_dates.specs.Standing.{Begins, GoesOn, IsSeated, KeepsSends, KeepsTakes, NoneActs, OutboxStands, QueueStands, SharedStands}
use Rattle.psy_dates.proofs.lemmas.Begun.{AreBegun, ends_none, seat_of_last, stands_behind}
use Rattle.psy_dates.proofs.Endings.{tells}
use Rattle.psy_dates.proofs.Entering.{length_entered}
use Rattle.psy_dates.proofs.Histories.{was_started}
use Rattle.psy_dates.proofs.Kept.{goes_still, kept_moves, kept_sends, kept_takes, nothing_begun, sends_kept, takes_kept}
use Rattle.psy_dates.proofs.Lists.{same_joined}
use Rattle.psy_dates.proofs.QueuesThen.{enters_there, seen_held, settles_there}
use Rattle.psy_dates.proofs.StreamLaws.{AreStreamLaws}

-- A message is the same whatever the opening, the inputs and the stalls
same_messages : (plan : Plan) (opening : Opening) (inputs : List (List ℤ)) (stalls : ℕ → List Stall) (stream agent end number : ℕ) (sends : List Sent) → messages_from (system_of plan [] (λ a. [])) stream agent end number sends ≡ messages_from (opened_of plan opening inputs stalls) stream agent end number sends
same_messages plan opening inputs stalls stream agent end number [] = refl
same_messages plan opening inputs stalls stream agent end number (sent ∷ sends) =
    ap (λ ms. if sent.stream == stream then message_of (opened_of plan opening inputs stalls) agent end number sent ∷ ms else ms) (same_messages plan opening inputs stalls stream agent end (number + 1) sends)

-- An action that ends at a date reached a point
done_there : (date : ℕ) (v : Verdict) → ended_at date v ≡ true → (point : ℕ) × (v ≡ Done point date)
done_there date (Done point end) e = (point, ap (Done point) (eqb-true end date e))
done_there date (Trapped kind) e = cc
done_there date Overran e = cc

ends_nowhere : true ≡ false → ⊥
ends_nowhere e = cc

-- An outbox that is cleared or not
cleared : (ends : Bool) (outbox : Outboxed) → (if ends then record outbox { sends = [] } else outbox) ≡ record outbox { sends = if ends then [] else outbox.sends }
cleared true outbox = refl
cleared false outbox = refl

module _ (plan : Plan) (opening : Opening) (inputs : List (List ℤ)) (stalls : ℕ → List Stall) (bare : IsBare plan.unit) (lawful : IsLawful (opened_of plan opening inputs stalls)) (laws : AreStreamLaws (opened_of plan opening inputs stalls) plan.sizes) (date : ℕ)
    (begun : AreBegun (opened_of plan opening inputs stalls) date) (turns : ℕ → List (Option Turn)) (old : Shared) (due : NoneActs date old.seats.items) (stands : SharedStands (opened_of plan opening inputs stalls) plan.sizes turns date old) where
  abbrev s : System
  s = opened_of plan opening inputs stalls

  abbrev pub receiver : ℕ → ℕ
  receiver stream = (stream_at plan.unit stream).receiver

  abbrev no_box : Outboxed
  no_box = record { size = 0; sends = [] }

  abbrev pub seat_of : ℕ → Seat
  seat_of agent = get_or old.seats.items agent nowhere

  seat_at : (agent : ℕ) → agent < length plan.unit.agents → slice_get old.seats.items agent ≡ Some (seat_of agent)
  seat_at agent l = slice_get-get_or old.seats.items agent nowhere (omega (arith, l, stands.seated))

  seated : (agent : ℕ) → agent < length plan.unit.agents → IsSeated (opening.silent agent) opening.dates (date - 1) (turns agent) (history s date agent) (seat_of agent)
  seated agent l = stands.seats agent (seat_of agent) (seat_at agent l)

  late : (agent : ℕ) → agent < length plan.unit.agents → (seat_of agent).deadline ≤ date → (seat_of agent).phase ≡ phase.Acting → ⊥
  late agent l = due agent (seat_of agent) (seat_at agent l)

  received : (stream : ℕ) → stream < length plan.unit.streams → receiver stream < length plan.unit.agents
  received stream l = (bare.streams stream _ l).receiver

  took : (stream : ℕ) → stream < length plan.unit.streams → KeepsTakes (date - 1) (turns (receiver stream)) stream (history s date (receiver stream)) (get_or old.taken.items stream 0)
  took stream l = stands.taken stream (get_or old.taken.items stream 0) (slice_get-get_or old.taken.items stream 0 (omega (arith, l, stands.taking)))

  sent : (agent : ℕ) → agent < length plan.unit.agents → KeepsSends (date - 1) (turns agent) (history s date agent) (sends_of old.outboxes.items agent)
  sent agent l = (stands.outboxes agent (get_or old.outboxes.items agent no_box) (slice_get-get_or old.outboxes.items agent no_box (omega (arith, l, stands.boxed)))).sends

  -- ---- what was taken is held

  pub holds_taken : (stream : ℕ) (queue : Queued) → slice_get old.queues.items stream ≡ Some queue → ends_at date (slice_get old.seats.items (receiver stream)) ≡ true → get_or old.taken.items stream 0 ≤ length queue.messages
  holds_taken stream queue at ends = from (history s date agent) refl (seated agent known) (took stream within)
    where
      within : stream < length plan.unit.streams
      within = omega (arith, slice_get_within old.queues.items stream queue at, stands.queued)

      agent : ℕ
      agent = receiver stream

      known : receiver stream < length plan.unit.agents
      known = received stream within

      now : ends_at date (Some (seat_of (receiver stream))) ≡ true
      now = ap (ends_at date) (sym (seat_at (receiver stream) known)) ∙ ends

      from : (actions : List Action) → history s date (receiver stream) ≡ actions → IsSeated (opening.silent (receiver stream)) opening.dates (date - 1) (turns (receiver stream)) actions (seat_of (receiver stream)) → KeepsTakes (date - 1) (turns (receiver stream)) stream actions (get_or old.taken.items stream 0) → get_or old.taken.items stream 0 ≤ length queue.messages
      from [] is waits keeps = absurd (ends_nowhere (sym now ∙ ends_none (opening.silent (receiver stream)) opening.dates (date - 1) (turns (receiver stream)) (seat_of (receiver stream)) ((seat_of (receiver stream)).end == date) waits))
      from (r ∷ before) is sits keeps =
          let of = seat_of_last (opening.silent (receiver stream)) opening.dates (date - 1) (turns (receiver stream)) r before (seat_of (receiver stream)) sits in
          let told = tells s lawful date (turns (receiver stream)) (receiver stream) r before is (seat_of (receiver stream)) of (late (receiver stream) known) in
          let ended : ended_at date r.verdict ≡ true = sym told.ends ∙ now in
          let (point, verdict) = done_there date r.verdict ended in
          let past : suc (date - 1) ≡ date = omega (arith, (was_started s lawful date (receiver stream) r before is).at) in
          let seen = seen_held s lawful (receiver stream) r before stream point date refl verdict (λ d there. laws.next d stream (stands_behind s date begun d (receiver stream) r before there) within)
          (λ d. laws.look d stream (receiver stream) (stream_at plan.unit stream) r before (slice_get-get_or plan.unit.streams stream _ within) refl) (date - 1) (ap (λ d. history s d (receiver stream)) past ∙ is) (omega (arith, past)) in
          let front = length-take (count_by (λ k. k == stream) r.deeds.takes) (r.seen stream) in
          let there : length (queue_of s date stream) ≡ length queue.messages = ap length (sym (stands.queues stream queue at).messages) in
          let far : length (r.seen stream) ≤ length (queue_of s date stream) = subst (λ d. length (r.seen stream) ≤ length (queue_of s d stream)) past seen in
          omega (arith, keeps (told.ended ended).1, front, far, there)

  -- ---- what enters

  pub sends_of_unit : (agent : ℕ) → ends_at date (slice_get old.seats.items agent) ≡ true → All (IsSentOf plan.unit) (sends_of old.outboxes.items agent)
  sends_of_unit agent ends = elim (cases_lt agent (length plan.unit.agents)) [
    | inl known ↦ from known (history s date agent) refl (seated agent known) (sent agent known)
    | inr beyond ↦ absurd (ends_nowhere (sym ends ∙ ap (ends_at date) (slice_get_past old.seats.items agent (omega (arith, beyond, stands.seated)))))
  ]
    where
      from : agent < length plan.unit.agents → (actions : List Action) → history s date agent ≡ actions → IsSeated (opening.silent agent) opening.dates (date - 1) (turns agent) actions (seat_of agent) → KeepsSends (date - 1) (turns agent) actions (sends_of old.outboxes.items agent) → All (IsSentOf plan.unit) (sends_of old.outboxes.items agent)
      from known [] is waits keeps = absurd (ends_nowhere (sym ends ∙ ap (ends_at date) (seat_at agent known) ∙ ends_none (opening.silent agent) opening.dates (date - 1) (turns agent) (seat_of agent) ((seat_of agent).end == date) waits))
      from known (r ∷ before) is sits keeps =
          let of = seat_of_last (opening.silent agent) opening.dates (date - 1) (turns agent) r before (seat_of agent) sits in
          let told = tells s lawful date (turns agent) agent r before is (seat_of agent) of (late agent known) in
          let ended : ended_at date r.verdict ≡ true = sym told.ends ∙ ap (ends_at date) (sym (seat_at agent known)) ∙ ends in
          subst (All (IsSentOf plan.unit)) (sym (keeps (told.ended ended).1)) (laws.fit date agent r before is)

  -- By stream, all messages that enter
  abbrev pub all_sent : ℕ → List Message
  all_sent = sent_from (system_of plan [] (λ agent. [])) date old.seats.items old.outboxes.items 0 (length plan.unit.agents)

  sent_is : (stream : ℕ) → all_sent stream ≡ entering s date stream
  sent_is stream = same_joined (sent_by (system_of plan [] (λ agent. [])) date old.seats.items old.outboxes.items stream) (λ agent. entering_of s date stream (history s date agent)) (length plan.unit.agents) each 0 (length plan.unit.agents) (omega arith)
    where
      each : (agent : ℕ) → agent < length plan.unit.agents → sent_by (system_of plan [] (λ agent. [])) date old.seats.items old.outboxes.items stream agent ≡ entering_of s date stream (history s date agent)
      each agent known =
          ap (λ found. if ends_at date found then messages_from (system_of plan [] (λ agent. [])) stream agent date 0 (sends_of old.outboxes.items agent) else []) (seat_at agent known)
          ∙ ap (λ ms. if ends_at date (Some (seat_of agent)) then ms else []) (same_messages plan opening inputs stalls stream agent date 0 (sends_of old.outboxes.items agent))
          ∙ enters_there s lawful date (turns agent) agent (seat_of agent) (late agent known) (seated agent known) stream (sends_of old.outboxes.items agent) (sent agent known)

  -- ---- the queues

  -- A stream's queue, once what goes there is gone
  abbrev pub queue_then : ℕ → Queued → Queued
  queue_then stream = settled_then date (first_date (timing_in plan (receiver stream))) (seat_of (receiver stream)) (get_or old.taken.items stream 0)

  settled_is : (stream : ℕ) (queue : Queued) → slice_get old.queues.items stream ≡ Some queue → queue_then stream queue ≡ record queue { messages = settled s date stream (queue_of s date stream) }
  settled_is stream queue at =
      let within : stream < length plan.unit.streams = omega (arith, slice_get_within old.queues.items stream queue at, stands.queued) in
      let agent = receiver stream in
      let known = received stream within in
      settles_there s lawful date (turns agent) agent (seat_of agent) (late agent known) (seated agent known) stream (get_or old.taken.items stream 0) (first_date (timing_in plan agent)) begun known refl (took stream within) queue
      ∙ ap (λ messages. record queue { messages = settled s date stream messages }) (stands.queues stream queue at).messages

  whole : (stream : ℕ) (queue : Queued) → slice_get old.queues.items stream ≡ Some queue → with_entered (all_sent stream) (queue_then stream queue) ≡ record queue { messages = queue_of s (date + 1) stream }
  whole stream queue at =
      let within : stream < length plan.unit.streams = omega (arith, slice_get_within old.queues.items stream queue at, stands.queued) in
      ap (with_entered (all_sent stream)) (settled_is stream queue at)
      ∙ ap (λ more. record queue { messages = entered more (settled s date stream (queue_of s date stream)) }) (sent_is stream)
      ∙ ap (λ messages. record queue { messages = messages }) (sym (laws.next date stream begun.behind within))

  -- there is room for what enters
  pub has_room : (now : List Queued) → length now ≡ length old.queues.items → ((stream : ℕ) (queue : Queued) → slice_get old.queues.items stream ≡ Some queue → slice_get now stream ≡ Some (queue_then stream queue)) → HaveRoom all_sent now
  has_room now same settles stream held is =
      let none : Queued = record { size = 0; messages = [] } in
      let within : stream < length old.queues.items = omega (arith, slice_get_within now stream held is, same) in
      let queue = get_or old.queues.items stream none in
      let at : slice_get old.queues.items stream ≡ Some queue = slice_get-get_or old.queues.items stream none within in
      let its = stands.queues stream queue at in
      let fits = laws.held (date + 1) stream (omega (arith, within, stands.queued)) in
      let behind : with_entered (all_sent stream) held ≡ record queue { messages = queue_of s (date + 1) stream } = ap (with_entered (all_sent stream)) (same_Some _ _ (sym is ∙ settles stream queue at)) ∙ whole stream queue at in
      let long : length (entered (all_sent stream) held.messages) ≡ length (queue_of s (date + 1) stream) = ap (λ (q : Queued). length q.messages) behind in
      let size : held.size ≡ queue.size = ap (λ (q : Queued). q.size) behind in
      omega (arith, length_entered (all_sent stream) held.messages, long, size, its.room, fits)

  pub queue_stands : (new : List Queued) → length new ≡ length old.queues.items → ((stream : ℕ) (queue : Queued) → slice_get old.queues.items stream ≡ Some queue → slice_get new stream ≡ Some (with_entered (all_sent stream) (queue_then stream queue)))
      → (stream : ℕ) (queue : Queued) → slice_get new stream ≡ Some queue → QueueStands s plan.sizes (date + 1) stream queue
  queue_stands new same moves stream held is =
      let none : Queued = record { size = 0; messages = [] } in
      let within : stream < length old.queues.items = omega (arith, slice_get_within new stream held is, same) in
      let queue = get_or old.queues.items stream none in
      let at : slice_get old.queues.items stream ≡ Some queue = slice_get-get_or old.queues.items stream none within in
      let its = stands.queues stream queue at in
      subst (QueueStands s plan.sizes (date + 1) stream) (sym (whole stream queue at) ∙ same_Some _ _ (sym (moves stream queue at) ∙ is)) (record { room = its.room; messages = refl })

  -- ---- what was sent and taken

  -- No action had a cycle before it starts.
  abbrev pub Unstarted : Type 0
  Unstarted = (agent number : ℕ) → first_number s agent + length (history s date agent) ≤ number → units agent number (turns agent) ≡ 0

  -- What an agent sent is cleared where its action ends.
  abbrev pub Boxes : List Outboxed → Type 0
  Boxes new = (agent : ℕ) (outbox : Outboxed) → slice_get old.outboxes.items agent ≡ Some outbox → slice_get new agent ≡ Some (if ends_at date (slice_get old.seats.items agent) then record outbox { sends = [] } else outbox)

  -- So is how many messages its receiver took from a stream.
  abbrev pub Takes : List ℕ → Type 0
  Takes new = (stream n : ℕ) → slice_get old.taken.items stream ≡ Some n → slice_get new stream ≡ Some (if ends_at date (slice_get old.seats.items (receiver stream)) then 0 else n)

  abbrev box_of : ℕ → Outboxed
  box_of agent = get_or old.outboxes.items agent no_box

  box_at : (agent : ℕ) → agent < length plan.unit.agents → slice_get old.outboxes.items agent ≡ Some (box_of agent)
  box_at agent l = slice_get-get_or old.outboxes.items agent no_box (omega (arith, l, stands.boxed))

  box_then : (new : List Outboxed) → Boxes new → (agent : ℕ) → agent < length plan.unit.agents → slice_get new agent ≡ Some (record (box_of agent) { sends = if ends_at date (Some (seat_of agent)) then [] else (box_of agent).sends })
  box_then new boxes agent l =
      boxes agent (box_of agent) (box_at agent l) ∙ ap (λ found. Some (if ends_at date found then record (box_of agent) { sends = [] } else box_of agent)) (seat_at agent l) ∙ ap Some (cleared (ends_at date (Some (seat_of agent))) (box_of agent))

  take_then : (new : List ℕ) → Takes new → (stream : ℕ) → stream < length plan.unit.streams → slice_get new stream ≡ Some (if ends_at date (Some (seat_of (receiver stream))) then 0 else get_or old.taken.items stream 0)
  take_then new takes stream l =
      takes stream (get_or old.taken.items stream 0) (slice_get-get_or old.taken.items stream 0 (omega (arith, l, stands.taking)))
      ∙ ap (λ found. Some (if ends_at date found then 0 else get_or old.taken.items stream 0)) (seat_at (receiver stream) (received stream l))

  pub outbox_stands : Unstarted → (new : List Outboxed) → length new ≡ length old.outboxes.items → Boxes new → (agent : ℕ) (outbox : Outboxed) → slice_get new agent ≡ Some outbox → OutboxStands plan.sizes date (turns agent) agent (history s (suc date) agent) outbox
  outbox_stands unstarted new same boxes agent outbox is =
      let l : agent < length plan.unit.agents = omega (arith, slice_get_within new agent outbox is, same, stands.boxed) in
      let its = stands.outboxes agent (box_of agent) (box_at agent l) in
      let kept = kept_moves s lawful date (turns agent) agent (seat_of agent) (late agent l) (seated agent l) (List Sent) [] (λ r. r.deeds.sends) (box_of agent).sends (sends_kept (date - 1) (turns agent) (history s date agent) (box_of agent).sends its.sends) (unstarted agent) in
      subst (OutboxStands plan.sizes date (turns agent) agent (history s (suc date) agent)) (same_Some _ _ (sym (box_then new boxes agent l) ∙ is)) (record {
        size = its.size;
        sends = kept_sends date (turns agent) (history s (suc date) agent) _ kept;
      })

  pub takes_stand : Unstarted → (new : List ℕ) → length new ≡ length old.taken.items → Takes new → (stream n : ℕ) → slice_get new stream ≡ Some n → KeepsTakes date (turns (receiver stream)) stream (history s (suc date) (receiver stream)) n
  takes_stand unstarted new same takes stream n is =
      let l : stream < length plan.unit.streams = omega (arith, slice_get_within new stream n is, same, stands.taking) in
      let agent = receiver stream in
      let known = received stream l in
      let before = get_or old.taken.items stream 0 in
      let kept = kept_moves s lawful date (turns agent) agent (seat_of agent) (late agent known) (seated agent known) ℕ 0 (λ r. length (taken r stream)) before (takes_kept (date - 1) (turns agent) stream (history s date agent) before (took stream l)) (unstarted agent) in
      subst (KeepsTakes date (turns agent) stream (history s (suc date) agent)) (same_Some _ _ (sym (take_then new takes stream l) ∙ is)) (kept_takes date (turns agent) stream (history s (suc date) agent) _ kept)

  -- ---- actions that start, and that go on

  module _ (seats : List Seat) (same : length seats ≡ length old.seats.items) (moves : (agent : ℕ) (seat : Seat) → slice_get old.seats.items agent ≡ Some seat → slice_get seats agent ≡ Some (seat_then (timing_in plan agent) date seat)) where
    known_in : (agent : ℕ) (seat : Seat) → slice_get seats agent ≡ Some seat → agent < length plan.unit.agents
    known_in agent seat is = omega (arith, slice_get_within seats agent seat is, same, stands.seated)

    moved_to : (agent : ℕ) (seat : Seat) (is : slice_get seats agent ≡ Some seat) → seat_then (timing_in plan agent) date (seat_of agent) ≡ seat
    moved_to agent seat is = same_Some _ _ (sym (moves agent (seat_of agent) (seat_at agent (known_in agent seat is))) ∙ is)

    -- a stream's receiver, by its declaration
    receives : (stream agent : ℕ) (decl : StreamDecl) → slice_get plan.unit.streams stream ≡ Some decl → decl.receiver ≡ agent → agent ≡ receiver stream
    receives stream agent decl at is = sym is ∙ ap (λ (d : StreamDecl). d.receiver) (sym (get_or_from_slice_get plan.unit.streams stream decl _ at))

    pub box_begun : (new : List Outboxed) → Boxes new → (agent : ℕ) → Begins date seats agent → (outbox : Outboxed) → slice_get new agent ≡ Some outbox → outbox.sends ≡ []
    box_begun new boxes agent (seat, is, acts, start) outbox at =
        let l = known_in agent seat is in
        let to = moved_to agent seat is in
        let its = stands.outboxes agent (box_of agent) (box_at agent l) in
        ap (λ (o : Outboxed). o.sends) (same_Some _ _ (sym at ∙ box_then new boxes agent l))
        ∙ nothing_begun s lawful date (turns agent) agent (seat_of agent) (late agent l) (seated agent l) (List Sent) [] (λ r. r.deeds.sends) (box_of agent).sends (sends_kept (date - 1) (turns agent) (history s date agent) (box_of agent).sends its.sends) (timing_in plan agent) (ap (λ (x : Seat). x.start) to ∙ start) (ap (λ (x : Seat). x.phase) to ∙ acts)

    pub take_begun : (new : List ℕ) → Takes new → (agent : ℕ) → Begins date seats agent → (stream : ℕ) (decl : StreamDecl) → slice_get plan.unit.streams stream ≡ Some decl → decl.receiver ≡ agent → slice_get new stream ≡ Some 0
    take_begun new takes agent begins stream decl at is = from (subst (Begins date seats) (receives stream agent decl at is) begins)
      where
        l : stream < length plan.unit.streams
        l = slice_get_within plan.unit.streams stream decl at

        from : Begins date seats (receiver stream) → slice_get new stream ≡ Some 0
        from (seat, there, acts, start) =
            let its = receiver stream in
            let known = known_in its seat there in
            let to = moved_to its seat there in
            let before = get_or old.taken.items stream 0 in
            take_then new takes stream l
            ∙ ap Some (nothing_begun s lawful date (turns its) its (seat_of its) (late its known) (seated its known) ℕ 0 (λ r. length (taken r stream)) before (takes_kept (date - 1) (turns its) stream (history s date its) before (took stream l)) (timing_in plan its) (ap (λ (x : Seat). x.start) to ∙ start) (ap (λ (x : Seat). x.phase) to ∙ acts))

    pub box_goes : (new : List Outboxed) → Boxes new → (agent : ℕ) → GoesOn date seats agent → slice_get new agent ≡ slice_get old.outboxes.items agent
    box_goes new boxes agent (seat, is, acts, start) =
        let l = known_in agent seat is in
        let still = goes_still (timing_in plan agent) date (seat_of agent) (omega (arith, start, ap (λ (x : Seat). x.start) (moved_to agent seat is))) in
        box_then new boxes agent l ∙ ap (λ (ends : Bool). Some (record (box_of agent) { sends = if ends then [] else (box_of agent).sends })) still ∙ sym (box_at agent l)

    pub take_goes : (new : List ℕ) → Takes new → (agent : ℕ) → GoesOn date seats agent → (stream : ℕ) (decl : StreamDecl) → slice_get plan.unit.streams stream ≡ Some decl → decl.receiver ≡ agent → slice_get new stream ≡ slice_get old.taken.items stream
    take_goes new takes agent goes stream decl at is = from (subst (GoesOn date seats) (receives stream agent decl at is) goes)
      where
        l : stream < length plan.unit.streams
        l = slice_get_within plan.unit.streams stream decl at

        from : GoesOn date seats (receiver stream) → slice_get new stream ≡ slice_get old.taken.items stream
        from (seat, there, acts, start) =
            let its = receiver stream in
            let still = goes_still (timing_in plan its) date (seat_of its) (omega (arith, start, ap (λ (x : Seat). x.start) (moved_to its seat there))) in
            take_then new takes stream l
            ∙ ap (λ (ends : Bool). Some (if ends then 0 else get_or old.taken.items stream 0)) still
            ∙ sym (slice_get-get_or old.taken.items stream 0 (omega (arith, l, stands.taking)))
