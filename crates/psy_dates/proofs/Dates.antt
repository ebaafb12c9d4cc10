-- What the agents share stands for the history up to a date, where it stood for the dates before.
use Rattle.std.proofs.Common.{◌≡◌, ℕ, suc, ◌+◌, ◌-◌, ◌^◌, ◌<◌, ◌≤◌, false, List, [], ◌∷◌, length, get_or, Option, Some, None, refl, sym, ap, subst, ◌∙◌, add-one, arith}
use Rattle.std.specs.Prelude.{slice_get, if◌then◌else◌, ℤ, pos}
use Rattle.std.proofs.lemmas.Option.{get_or_from_slice_get, same_Some, slice_get-get_or, slice_get_within}
use Rattle.std.proofs.lemmas.List.Elements.{All-get_or}
use Rattle.psy_base.specs.declared.limits.TheConstants.{STALL}
use Rattle.psy_budget.specs.declared.charge.Stall.{Stall}
use Rattle.psy_clock.specs.Dates.{IsClock}
use Rattle.psy_queue.specs.Order.{Queued}
use Rattle.psy_history.specs.Actions.{Action, Opening, System, publishing, stream_of, variable_of}
use Rattle.psy_history.specs.History.{history}
use Rattle.psy_tree.specs.Parts.{stream_at}
use Rattle.psy_history.specs.Schedule.{Turn, units}
use Rattle.psy_meaning.specs.Timing.{first_date}
use Rattle.psy_meaning.specs.Units.{IsBare, OwnedWithin}
use Rattle.psy_history.specs.Regular.{IsLawful, first_number}
use Rattle.psy_dates.specs.Calendars.{CalendarStands}
use Rattle.psy_dates.specs.declared.plan.Plan.{Plan}
use Rattle.psy_dates.specs.declared.seat.Phase.TheVariants as phase
use Rattle.psy_dates.specs.declared.seat.Seat.{Seat}
use Rattle.psy_dates.specs.declared.shared.Shared.{Shared}
use Rattle.psy_dates.specs.Messages.{nowhere, sent_from, settled_then, with_entered}
use Rattle.psy_dates.specs.Movers.{IsBefore, NamesAll, first_in, moves_in, starts_in}
use Rattle.psy_dates.specs.Moves.{IsNumbered, commits_at, ends_at, owner_of, seat_then, timing_in}
use Rattle.psy_dates.specs.Outboxes.{Outboxed}
use Rattle.psy_dates.specs.Plans.{opened_of, system_of}
use Rattle.psy_dates.specs.Publications.{ring_then}
use Rattle.psy_dates.specs.Standing.{IsSeated, KeepsCopy, KeepsTakes, NoneActs, OutboxStands, RingStands, SharedStands, committed_by, dates_done}
use Rattle.psy_dates.proofs.lemmas.Begun.{AreBegun, none_numbered, seat_of_last}
use Rattle.psy_dates.proofs.Committed.{committed_moves, kept_moves}
use Rattle.psy_dates.proofs.Histories.{few, numbered, was_started}
use Rattle.psy_dates.proofs.MoversThen.{IsEarlier, before_then, falls_then, loud_then, seat_earlier, starts_then}
use Rattle.psy_dates.proofs.Publications.{Goes, ring_moves}
use Rattle.psy_dates.proofs.Seats.{seated_moves}
use Rattle.psy_dates.proofs.StreamLaws.{AreStreamLaws}
use Rattle.psy_dates.proofs.StreamsThen.{outbox_stands, queue_stands, takes_stand}

one_back : (n : ℕ) → (n + 1) - 1 ≡ n
one_back n = omega arith

-- An agent has done fewer actions than there were dates
pub seat_numbered : (s : System) → IsLawful s → (date agent : ℕ) (turns : List (Option Turn)) (seat : Seat) → first_number s agent ≤ STALL → date ≤ 2 ^ 32 → IsSeated (s.opening.silent agent) s.opening.dates (date - 1) turns (history s date agent) seat → IsNumbered seat
seat_numbered s lawful date agent turns seat small early = from (history s date agent) refl
  where
    from : (actions : List Action) → history s date agent ≡ actions → IsSeated (s.opening.silent agent) s.opening.dates (date - 1) turns actions seat → IsNumbered seat
    from [] is waits = none_numbered (s.opening.silent agent) s.opening.dates (date - 1) turns seat waits
    from (r ∷ before) is sits =
        let stands = seat_of_last (s.opening.silent agent) s.opening.dates (date - 1) turns r before seat sits in
        λ ended. omega (arith, small, early, stands.number, (was_started s lawful date agent r before is).number, few s lawful date agent r before is)

-- What a date changes
pub record Moved (plan : Plan) (inputs : List (List ℤ)) (date : ℕ) (old new : Shared) : Type 0 where
  pub date_is : new.date ≡ Some date
  pub seated : length new.seats.items ≡ length old.seats.items
  pub seats : (agent : ℕ) (seat : Seat) → slice_get old.seats.items agent ≡ Some seat → slice_get new.seats.items agent ≡ Some (seat_then (timing_in plan agent) date seat)
  pub valued : length new.committed.items ≡ length old.committed.items
  pub committed : (variable : ℕ) → variable < length plan.unit.variables → get_or new.committed.items variable (pos 0) ≡ (if commits_at date old.seats.items (owner_of plan.unit.variables variable) then get_or old.ended.items variable (pos 0) else get_or old.committed.items variable (pos 0))
  pub ended : new.ended.items ≡ old.ended.items
  pub ringed : length new.rings.items ≡ length old.rings.items
  pub rings : (variable : ℕ) (ring : List ℤ) → slice_get old.rings.items variable ≡ Some ring → slice_get new.rings.items variable ≡ Some (ring_then (system_of plan inputs (λ agent. [])) new.committed.items date variable ring)
  pub queued : length new.queues.items ≡ length old.queues.items
  pub queues : (stream : ℕ) (queue : Queued) → slice_get old.queues.items stream ≡ Some queue → slice_get new.queues.items stream ≡ Some (with_entered (sent_from (system_of plan [] (λ agent. [])) date old.seats.items old.outboxes.items 0 (length plan.unit.agents) stream)
      (settled_then date (first_date (timing_in plan (stream_at plan.unit stream).receiver)) (get_or old.seats.items (stream_at plan.unit stream).receiver nowhere) (get_or old.taken.items stream 0) queue))
  pub boxed : length new.outboxes.items ≡ length old.outboxes.items
  pub outboxes : (agent : ℕ) (outbox : Outboxed) → slice_get old.outboxes.items agent ≡ Some outbox → slice_get new.outboxes.items agent ≡ Some (if ends_at date (slice_get old.seats.items agent) then record outbox { sends = [] } else outbox)
  pub taking : length new.taken.items ≡ length old.taken.items
  pub taken : (stream n : ℕ) → slice_get old.taken.items stream ≡ Some n → slice_get new.taken.items stream ≡ Some (if ends_at date (slice_get old.seats.items (stream_at plan.unit stream).receiver) then 0 else n)
  pub calendar : CalendarStands plan.unit.clocks (date + 1) new.calendar
  pub room : new.movers.moved.size ≡ old.movers.moved.size
  pub stopped : new.movers.stopped ≡ old.movers.stopped
  pub names : NamesAll (moves_in plan date old.seats.items) (length old.seats.items) 0 new.movers.moved.agents
  pub others : (agent : ℕ) (seat : Seat) → slice_get old.seats.items agent ≡ Some seat → moves_in plan date old.seats.items agent ≡ false → IsBefore new.movers.least (first_in plan agent) seat seat.phase

module _ (plan : Plan) (opening : Opening) (inputs : List (List ℤ)) (stalls : ℕ → List Stall) (bare : IsBare plan.unit) (lawful : IsLawful (opened_of plan opening inputs stalls)) (laws : AreStreamLaws (opened_of plan opening inputs stalls) plan.sizes) (date : ℕ)
    (begun : AreBegun (opened_of plan opening inputs stalls) date) (turns : ℕ → List (Option Turn))
    (goes : (variable : ℕ) → IsClock (publishing (opened_of plan opening inputs stalls) variable) → Goes (opened_of plan opening inputs stalls) date variable)
    (unstarted : (agent number : ℕ) → first_number (opened_of plan opening inputs stalls) agent + length (history (opened_of plan opening inputs stalls) date agent) ≤ number → units agent number (turns agent) ≡ 0)
    (old new : Shared) (due : NoneActs date old.seats.items) (stands : SharedStands (opened_of plan opening inputs stalls) plan.sizes turns date old) (moved : Moved plan inputs date old new) where
  abbrev s : System
  s = opened_of plan opening inputs stalls

  -- a seat by its agent
  seat_at : (agent : ℕ) → agent < length plan.unit.agents → (seat : Seat) × (slice_get old.seats.items agent ≡ Some seat)
  seat_at agent l =
      let none : Seat = record { phase = phase.Waiting; number = 0; point = 0; start = 0; deadline = 0; end = 0; reached = 0; trap = None } in
      (get_or old.seats.items agent none, slice_get-get_or old.seats.items agent none (omega (arith, l, stands.seated)))

  -- The seat of an agent, as its history has it
  abbrev Sits : ℕ → ℕ → Seat → Type 0
  Sits done agent = IsSeated (opening.silent agent) opening.dates date (turns agent) (history s done agent)

  seat_stands : (agent : ℕ) (seat : Seat) → slice_get new.seats.items agent ≡ Some seat → Sits (suc date) agent seat
  seat_stands agent seat is =
      let within : agent < length plan.unit.agents = omega (arith, slice_get_within new.seats.items agent seat is, moved.seated, stands.seated) in
      let (before, was) = seat_at agent within in
      let same : seat_then (timing_in plan agent) date before ≡ seat = same_Some _ _ (sym (moved.seats agent before was) ∙ is) in
      subst (Sits (suc date) agent) same (seated_moves s lawful date (turns agent) agent (unstarted agent) before begun within (due agent before was) (stands.seats agent before was))

  committed_is : (variable : ℕ) (value : ℤ) → slice_get new.committed.items variable ≡ Some value → value ≡ committed_by s (history s (suc date)) variable date (variable_of s variable).owner
  committed_is variable value is = sym (get_or_from_slice_get new.committed.items variable value (pos 0) is) ∙ moved.committed variable within ∙ by_owner (variable_of s variable).owner (bare.variables variable _ within).owner before copies
    where
      within : variable < length plan.unit.variables
      within = omega (arith, slice_get_within new.committed.items variable value is, moved.valued, stands.valued)

      old_value : ℤ
      old_value = get_or old.committed.items variable (pos 0)

      copy : ℤ
      copy = get_or old.ended.items variable (pos 0)

      before : old_value ≡ committed_by s (history s date) variable (date - 1) (variable_of s variable).owner
      before = stands.committed variable old_value (slice_get-get_or old.committed.items variable (pos 0) (omega (arith, within, stands.valued)))

      copies : (owner : ℕ) → (variable_of s variable).owner ≡ Some owner → KeepsCopy (date - 1) (turns owner) variable (history s date owner) copy
      copies owner = stands.ended variable owner copy (slice_get-get_or old.ended.items variable (pos 0) (omega (arith, within, stands.kept)))

      by_owner : (owner : Option ℕ) → OwnedWithin (length plan.unit.agents) owner → old_value ≡ committed_by s (history s date) variable (date - 1) owner → ((agent : ℕ) → owner ≡ Some agent → KeepsCopy (date - 1) (turns agent) variable (history s date agent) copy)
          → (if commits_at date old.seats.items owner then copy else old_value) ≡ committed_by s (history s (suc date)) variable date owner
      by_owner None known stood kept = stood
      by_owner (Some agent) known stood kept =
          let (seat, at) = seat_at agent known in
          ap (λ found. if ends_at date found then copy else old_value) at ∙ committed_moves s lawful date (turns agent) agent variable old_value copy seat (due agent seat at) (stands.seats agent seat at) stood (kept agent refl)

  ended_is : (variable owner : ℕ) (value : ℤ) → slice_get new.ended.items variable ≡ Some value → (variable_of s variable).owner ≡ Some owner → KeepsCopy date (turns owner) variable (history s (suc date) owner) value
  ended_is variable owner value is owned =
      kept_moves s lawful date (turns owner) owner (unstarted owner) variable value (numbered s lawful date owner) (stands.ended variable owner value (ap (λ items. slice_get items variable) (sym moved.ended) ∙ is) owned)

  clock_is : (variable : ℕ) → variable < length plan.unit.variables → IsClock (publishing s variable)
  clock_is variable within = All-get_or IsClock plan.unit.clocks (variable_of s variable).clock _ (bare.variables variable _ within).clock bare.clocks

  ring_stands : (variable : ℕ) (ring : List ℤ) → slice_get new.rings.items variable ≡ Some ring → RingStands s plan.sizes (date + 1) variable ring
  ring_stands variable ring is =
      let within : variable < length plan.unit.variables = omega (arith, slice_get_within new.rings.items variable ring is, moved.ringed, stands.ringed) in
      let before = get_or old.rings.items variable [] in
      let was : slice_get old.rings.items variable ≡ Some before = slice_get-get_or old.rings.items variable [] (omega (arith, within, stands.ringed)) in
      let value = get_or new.committed.items variable (pos 0) in
      let committed = committed_is variable value (slice_get-get_or new.committed.items variable (pos 0) (omega (arith, within, moved.valued, stands.valued))) in
      subst (RingStands s plan.sizes (date + 1) variable) (same_Some _ _ (sym (moved.rings variable before was) ∙ is))
      (ring_moves s plan.sizes date variable begun.behind (goes variable (clock_is variable within)) new.committed.items before
      (subst (λ n. value ≡ committed_by s (history s n) variable date (variable_of s variable).owner) (sym (add-one date)) committed) (stands.rings variable before was))

  -- The seats of agents before the date
  earlier : (agent : ℕ) (seat : Seat) → slice_get old.seats.items agent ≡ Some seat → IsEarlier s lawful date begun (turns agent) agent seat
  earlier agent seat at = seat_earlier s lawful date begun (turns agent) agent seat (stands.seats agent seat at)

  -- Of the agents that moved it is known whose action started.
  pub starts_known : NamesAll (starts_in (date + 1) new.seats.items) (length new.seats.items) 0 new.movers.moved.agents
  starts_known = starts_then plan date old.seats.items new.seats.items moved.seated moved.seats earlier new.movers.moved.agents moved.names

  pub shared_moves : SharedStands s plan.sizes turns (date + 1) new
  shared_moves = record {
    date = ap dates_done moved.date_is;
    seated = moved.seated ∙ stands.seated;
    seats = λ agent seat is. subst (λ d. IsSeated (opening.silent agent) opening.dates d (turns agent) (history s (date + 1) agent) seat) (sym (one_back date)) (subst (λ n. Sits n agent seat) (sym (add-one date)) (seat_stands agent seat is));
    valued = moved.valued ∙ stands.valued;
    committed = λ variable value is. subst (λ d. value ≡ committed_by s (history s (date + 1)) variable d (variable_of s variable).owner) (sym (one_back date)) (subst (λ n. value ≡ committed_by s (history s n) variable date (variable_of s variable).owner) (sym (add-one date)) (committed_is variable value is));
    kept = ap length moved.ended ∙ stands.kept;
    ended = λ variable owner value is owned. subst (λ d. KeepsCopy d (turns owner) variable (history s (date + 1) owner) value) (sym (one_back date)) (subst (λ n. KeepsCopy date (turns owner) variable (history s n owner) value) (sym (add-one date)) (ended_is variable owner value is owned));
    ringed = moved.ringed ∙ stands.ringed;
    rings = ring_stands;
    queued = moved.queued ∙ stands.queued;
    queues = queue_stands plan opening inputs stalls bare lawful laws date begun turns old due stands new.queues.items moved.queued moved.queues;
    boxed = moved.boxed ∙ stands.boxed;
    outboxes = λ agent outbox is. subst (λ d. OutboxStands plan.sizes d (turns agent) agent (history s (date + 1) agent) outbox) (sym (one_back date)) (subst (λ n. OutboxStands plan.sizes date (turns agent) agent (history s n agent) outbox) (sym (add-one date)) (outbox_stands plan opening inputs stalls bare lawful laws date begun turns old due stands unstarted new.outboxes.items moved.boxed moved.outboxes agent outbox is));
    taking = moved.taking ∙ stands.taking;
    taken = λ stream n is. subst (λ d. KeepsTakes d (turns (stream_of s stream).receiver) stream (history s (date + 1) (stream_of s stream).receiver) n) (sym (one_back date)) (subst (λ k. KeepsTakes date (turns (stream_of s stream).receiver) stream (history s k (stream_of s stream).receiver) n) (sym (add-one date)) (takes_stand plan opening inputs stalls bare lawful laws date begun turns old due stands unstarted new.taken.items moved.taking moved.taken stream n is));
    calendar = moved.calendar;
    movers = record {
      room = omega (arith, moved.room, stands.movers.room);
      before = before_then plan date old.seats.items new.seats.items moved.seated moved.seats new.movers.least moved.others;
      stopped = λ none. loud_then plan date old.seats.items new.seats.items moved.seated moved.seats (stands.movers.stopped (sym moved.stopped ∙ none));
      fallen = falls_then plan date old.seats.items new.seats.items moved.seated moved.seats earlier new.movers.moved.agents moved.names;
    };
  }
