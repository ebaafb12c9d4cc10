-- What a date leaves at which nothing happens.
use Rattle.std.proofs.Common.{◌≡◌, ℕ, zero, suc, ◌+◌, ◌<◌, false, List, [], ◌++◌, length, get_or, Option, Some, None, refl, sym, ap, ◌∙◌, inl, inr, arith}
use Rattle.std.specs.Prelude.{slice_get, ℤ}
use Rattle.std.specs.List.{flat_map, range_with_len}
use Rattle.std.proofs.lemmas.Bool.{cases_lt, cond-false, lt-leb, ne_eqb}
use Rattle.std.proofs.lemmas.Option.{slice_get-get_or, slice_get_past, slice_get_within}
use Rattle.psy_budget.specs.declared.charge.Stall.{Stall}
use Rattle.psy_queue.specs.Order.{Queued}
use Rattle.psy_history.specs.Actions.{Opening, System, publishing}
use Rattle.psy_history.specs.Lines.{is_date}
use Rattle.psy_history.specs.Schedule.{Turn}
use Rattle.psy_meaning.specs.Timing.{first_date}
use Rattle.psy_meaning.specs.Units.{IsBare}
use Rattle.psy_tree.specs.Parts.{no_stream, stream_at}
use Rattle.psy_dates.specs.declared.plan.Plan.{Plan}
use Rattle.psy_dates.specs.declared.seat.Phase.{Phase}
use Rattle.psy_dates.specs.declared.seat.Phase.TheVariants as phase
use Rattle.psy_dates.specs.declared.seat.Seat.{Seat}
use Rattle.psy_dates.specs.declared.shared.Shared.{Shared}
use Rattle.psy_dates.specs.Messages.{nowhere, sent_by, sent_from, settled_then, sweeps_by, with_entered}
use Rattle.psy_dates.specs.Movers.{IsBefore, first_in, moves_by, moves_in, of_seat}
use Rattle.psy_dates.specs.Moves.{commits_at, ends_at, owner_of, timing_in}
use Rattle.psy_dates.specs.Plans.{opened_of, system_of}
use Rattle.psy_dates.specs.Standing.{SharedStands}
use Rattle.psy_dates.specs.Still.{IsStill, passed}
use Rattle.psy_dates.proofs.lemmas.Moving.{ends_less, moves_of, seat_still, sweeps_not}
use Rattle.psy_dates.proofs.Calendars.{CountsBelow, all_later}
use Rattle.psy_dates.proofs.Dates.{Moved}
use Rattle.psy_dates.proofs.Publications.{none_due, ring_stays}

-- ---- a seat

-- A seat that changes no earlier than a later date doesn't change.
not_yet : (date least first : ℕ) (seat : Seat) (p : Phase) → date < least → IsBefore least first seat p → moves_by date first seat p ≡ false
not_yet date least first seat phase.Waiting l h = ne_eqb first date (λ e. omega (arith, l, h, e))
not_yet date least first seat phase.Acting l h = refl
not_yet date least first seat phase.Ended l h = ne_eqb seat.end date (λ e. omega (arith, l, h, e))
not_yet date least first seat phase.Stopped l h = lt-leb seat.deadline date (omega (arith, l, h))
not_yet date least first seat phase.Silent l h = refl

-- ---- nothing is sent

-- Nothing, of each of these numbers, is nothing.
joined_none : {X : Type 0} (f : ℕ → List X) → ((k : ℕ) → f k ≡ []) → (from n : ℕ) → flat_map f (range_with_len from n) ≡ []
joined_none f none from zero = refl
joined_none f none from (suc n) = ap (λ xs. xs ++ flat_map f (range_with_len (from + 1) n)) (none from) ∙ joined_none f none (from + 1) n

-- ---- a date

module _ (plan : Plan) (opening : Opening) (inputs : List (List ℤ)) (stalls : ℕ → List Stall) (turns : ℕ → List (Option Turn)) (below : CountsBelow) (bare : IsBare plan.unit) (date : ℕ) (old : Shared)
    (still : IsStill date old) (stands : SharedStands (opened_of plan opening inputs stalls) plan.sizes turns date old) where
  abbrev s : System
  s = opened_of plan opening inputs stalls

  abbrev seats : List Seat
  seats = old.seats.items

  seat_stays : (agent : ℕ) (seat : Seat) → slice_get seats agent ≡ Some seat → moves_by date (first_in plan agent) seat seat.phase ≡ false
  seat_stays agent seat at = not_yet date old.movers.least (first_in plan agent) seat seat.phase still.moves (stands.movers.before agent seat at)

  nobody : (agent : ℕ) → moves_in plan date seats agent ≡ false
  nobody agent = elim (cases_lt agent (length seats)) [
    | inl within ↦ (
        let at = slice_get-get_or seats agent nowhere within in
        moves_of plan date seats agent (get_or seats agent nowhere) at ∙ seat_stays agent (get_or seats agent nowhere) at)
    | inr past ↦ ap (of_seat (λ seat. moves_by date (first_in plan agent) seat seat.phase)) (slice_get_past seats agent past)
  ]

  ends : (agent : ℕ) → ends_at date (slice_get seats agent) ≡ false
  ends agent = ends_less plan date seats agent (nobody agent)

  commits : (owner : Option ℕ) → commits_at date seats owner ≡ false
  commits None = refl
  commits (Some owner) = ends owner

  no_sends : (stream : ℕ) → sent_from (system_of plan [] (λ agent. [])) date seats old.outboxes.items 0 (length plan.unit.agents) stream ≡ []
  no_sends stream = joined_none (sent_by (system_of plan [] (λ agent. [])) date seats old.outboxes.items stream) (λ agent. cond-false (ends_at date (slice_get seats agent)) _ _ (ends agent)) 0 (length plan.unit.agents)

  settles : (stream : ℕ) (queue : Queued) → slice_get old.queues.items stream ≡ Some queue
      → settled_then date (first_date (timing_in plan (stream_at plan.unit stream).receiver)) (get_or seats (stream_at plan.unit stream).receiver nowhere) (get_or old.taken.items stream 0) queue ≡ queue
  settles stream queue at =
      let receiver = (stream_at plan.unit stream).receiver in
      let among : stream < length plan.unit.streams = omega (arith, slice_get_within old.queues.items stream queue at, stands.queued) in
      let known : receiver < length seats = omega (arith, (bare.streams stream no_stream among).receiver, stands.seated) in
      let seat = get_or seats receiver nowhere in
      let here = slice_get-get_or seats receiver nowhere known in
      cond-false (sweeps_by date (first_in plan receiver) seat seat.phase) _ _ (sweeps_not date (first_in plan receiver) seat seat.phase (stands.movers.stopped still.stopped receiver seat here).1 (seat_stays receiver seat here))

  publishes : (variable : ℕ) → variable < length plan.unit.variables → is_date (publishing s variable) date ≡ false
  publishes variable within = none_due s date old.calendar stands.calendar still.clocks variable (bare.variables variable _ within).clock

  -- What each part of a date changes is nothing.
  pub passed_moves : Moved plan inputs date old (passed date old)
  passed_moves = record {
    date_is = refl;
    seated = refl;
    seats = λ agent seat at. at ∙ ap Some (sym (seat_still plan date seats agent seat at (nobody agent)));
    valued = refl;
    committed = λ variable within. sym (cond-false (commits_at date seats (owner_of plan.unit.variables variable)) _ _ (commits (owner_of plan.unit.variables variable)));
    ended = refl;
    ringed = refl;
    rings = λ variable ring at.
        let within : variable < length plan.unit.variables = omega (arith, slice_get_within old.rings.items variable ring at, stands.ringed) in
        at ∙ ap Some (sym (ring_stays (system_of plan inputs (λ agent. [])) old.committed.items date variable ring (publishes variable within)));
    queued = refl;
    queues = λ stream queue at. at ∙ ap Some (sym (ap (λ more. with_entered more (settled_then date (first_date (timing_in plan (stream_at plan.unit stream).receiver)) (get_or seats (stream_at plan.unit stream).receiver nowhere) (get_or old.taken.items stream 0) queue)) (no_sends stream) ∙ settles stream queue at));
    boxed = refl;
    outboxes = λ agent outbox at. at ∙ ap Some (sym (cond-false (ends_at date (slice_get seats agent)) _ _ (ends agent)));
    taking = refl;
    taken = λ stream n at. at ∙ ap Some (sym (cond-false (ends_at date (slice_get seats (stream_at plan.unit stream).receiver)) _ _ (ends (stream_at plan.unit stream).receiver)));
    calendar = record {
      count = stands.calendar.count;
      nexts = all_later below plan.unit.clocks bare.clocks date old.calendar stands.calendar.nexts still.clocks;
    };
    room = refl;
    stopped = refl;
    names = λ agent from within. nobody agent;
    others = λ agent seat at not_moved. stands.movers.before agent seat at;
  }
