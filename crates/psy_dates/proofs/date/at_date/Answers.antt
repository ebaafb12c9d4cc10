-- What is left of the proof of `date::at_date`.
use Rattle.std.proofs.Common.{◌≡◌, ℕ, ◌≤◌, ◌+◌, ◌*◌, ◌^◌, false, List, [], All, Some, length, get_or, refl, sym, ap, subst, ◌∙◌, arith}
use Rattle.std.specs.Prelude.{slice_get, if◌then◌else◌, ℤ, pos}
use Rattle.std.specs.Vec.{with_items}
use Rattle.std.proofs.lemmas.List.{with_items_is}
use Rattle.std.proofs.lemmas.Option.{slice_get-get_or}
use Rattle.psy_queue.specs.Order.{Queued}
use Rattle.psy_meaning.specs.Kept.{IsSentOf}
use Rattle.psy_tree.specs.Parts.{stream_at}
use Rattle.psy_meaning.specs.Timing.{first_date}
use Rattle.psy_history.specs.Scheduled.{turns_by}
use Rattle.psy_meaning.specs.KnownWays.{Listed}
use Rattle.psy_clock.specs.Dates.{IsClock}
use Rattle.psy_dates.specs.Calendars.{AreNext, CalendarStands}
use Rattle.psy_dates.specs.declared.plan.Plan.{Plan}
use Rattle.psy_dates.specs.declared.seat.Seat.{Seat}
use Rattle.psy_dates.specs.declared.shared.Shared.{Shared}
use Rattle.psy_dates.specs.Messages.{HaveRoom, nowhere, sends_of, sent_from, settled_then, with_entered}
use Rattle.psy_dates.specs.Movers.{IsBefore, NamesAll, ends_in, first_in, moves_in}
use Rattle.psy_dates.specs.Moves.{IsNumbered, commits_at, ends_at, owner_of, timing_in}
use Rattle.psy_dates.specs.Outboxes.{Outboxed}
use Rattle.psy_dates.specs.Plans.{opened_of, system_of}
use Rattle.psy_dates.specs.Publications.{ring_then}
use Rattle.psy_dates.proofs.lemmas.Begun.{are_begun}
use Rattle.psy_dates.proofs.lemmas.Fits.{goes_well_from, nexts_count}
use Rattle.psy_dates.proofs.lemmas.Moving.{names_ends}
use Rattle.psy_dates.proofs.lemmas.Names.{names_as, names_within}
use Rattle.psy_dates.proofs.Dates.{Moved, seat_numbered, shared_moves, starts_known}
use Rattle.psy_dates.proofs.StreamLaws.{stream_laws}
use Rattle.psy_dates.proofs.StreamsThen.{box_begun, box_goes, has_room, holds_taken, sends_of_unit, take_begun, take_goes}
use Rattle.psy_dates.proofs.date.at_date.Goals as goal

pub move_all-requires-clause-numbered : goal.move_all-requires-clause-numbered
move_all-requires-clause-numbered c =
    let plan = c.args.plan.now in
    let inputs = c.args.shared.now.inputs.lists in
    let (opening, stalls, order, sound, behind, stands) = c.requires.stands in
    let s = opened_of plan opening inputs stalls in
    let seats = c.args.shared.now.seats.items in
    let early : c.args.date ≤ 2 ^ 32 = omega arith in
    let run = goes_well_from plan c.requires.plan c.fitting.ensures c.openings.ensures.run opening inputs stalls c.requires.inputs sound in
    let lawful = c.regular.ensures.lawful s (Listed c.requires.plan.ways) plan.code run in
    let begun = are_begun s (Listed c.requires.plan.ways) plan.code c.args.date (sound c.requires.plan) behind (c.openings.ensures.none s (Listed c.requires.plan.ways) plan.code run) (c.openings.ensures.silent s (Listed c.requires.plan.ways) plan.code run) (c.openings.ensures.waits s (Listed c.requires.plan.ways) plan.code run) in
    let numbered : All IsNumbered seats = λ k d l. seat_numbered s lawful c.args.date k (turns_by s order (c.args.date * plan.unit.quantum) k) (get_or seats k d) (begun.numbers k) early (stands.seats k (get_or seats k d) (slice_get-get_or seats k d l)) in
    subst (All IsNumbered) (sym c.deref_mut-7.ensures.value) numbered

pub settle_all-requires-clause-held : goal.settle_all-requires-clause-held
settle_all-requires-clause-held c stream queue at ends =
    let plan = c.args.plan.now in
    let old = c.args.shared.now in
    let inputs = old.inputs.lists in
    let (opening, stalls, order, sound, behind, stands) = c.requires.stands in
    let s = opened_of plan opening inputs stalls in
    let run = goes_well_from plan c.requires.plan c.fitting.ensures c.openings.ensures.run opening inputs stalls c.requires.inputs sound in
    let lawful = c.regular.ensures.lawful s (Listed c.requires.plan.ways) plan.code run in
    let begun = are_begun s (Listed c.requires.plan.ways) plan.code c.args.date (sound c.requires.plan) behind (c.openings.ensures.none s (Listed c.requires.plan.ways) plan.code run) (c.openings.ensures.silent s (Listed c.requires.plan.ways) plan.code run) (c.openings.ensures.waits s (Listed c.requires.plan.ways) plan.code run) in
    let laws = stream_laws plan c.requires.plan opening inputs stalls run c.regular.ensures.sends c.queues.ensures.next c.queues.ensures.look c.queue_sizes.ensures.held in
    subst (λ xs. get_or xs stream 0 ≤ length queue.messages) (sym c.deref-5.ensures.value)
    (holds_taken plan opening inputs stalls c.requires.plan.fits.bare lawful laws c.args.date begun (turns_by s order (c.args.date * plan.unit.quantum)) old c.requires.due stands stream queue
    (ap (λ xs. slice_get xs stream) (sym c.deref_mut-2.ensures.value) ∙ at) (ap (λ xs. ends_at c.args.date (slice_get xs (stream_at plan.unit stream).receiver)) (sym c.deref-4.ensures.value) ∙ ends))

pub enter_all-requires-clause-sent : goal.enter_all-requires-clause-sent
enter_all-requires-clause-sent c agent ends =
    let plan = c.args.plan.now in
    let old = c.args.shared.now in
    let inputs = old.inputs.lists in
    let (opening, stalls, order, sound, behind, stands) = c.requires.stands in
    let s = opened_of plan opening inputs stalls in
    let run = goes_well_from plan c.requires.plan c.fitting.ensures c.openings.ensures.run opening inputs stalls c.requires.inputs sound in
    let lawful = c.regular.ensures.lawful s (Listed c.requires.plan.ways) plan.code run in
    let begun = are_begun s (Listed c.requires.plan.ways) plan.code c.args.date (sound c.requires.plan) behind (c.openings.ensures.none s (Listed c.requires.plan.ways) plan.code run) (c.openings.ensures.silent s (Listed c.requires.plan.ways) plan.code run) (c.openings.ensures.waits s (Listed c.requires.plan.ways) plan.code run) in
    let laws = stream_laws plan c.requires.plan opening inputs stalls run c.regular.ensures.sends c.queues.ensures.next c.queues.ensures.look c.queue_sizes.ensures.held in
    subst (λ xs. All (IsSentOf plan.unit) (sends_of xs agent)) (sym c.deref-7.ensures.value)
    (sends_of_unit plan opening inputs stalls c.requires.plan.fits.bare lawful laws c.args.date begun (turns_by s order (c.args.date * plan.unit.quantum)) old c.requires.due stands agent
    (ap (λ xs. ends_at c.args.date (slice_get xs agent)) (sym c.deref-6.ensures.value) ∙ ends))

pub enter_all-requires-clause-room : goal.enter_all-requires-clause-room
enter_all-requires-clause-room c =
    let plan = c.args.plan.now in
    let old = c.args.shared.now in
    let inputs = old.inputs.lists in
    let date = c.args.date in
    let (opening, stalls, order, sound, behind, stands) = c.requires.stands in
    let s = opened_of plan opening inputs stalls in
    let run = goes_well_from plan c.requires.plan c.fitting.ensures c.openings.ensures.run opening inputs stalls c.requires.inputs sound in
    let lawful = c.regular.ensures.lawful s (Listed c.requires.plan.ways) plan.code run in
    let begun = are_begun s (Listed c.requires.plan.ways) plan.code c.args.date (sound c.requires.plan) behind (c.openings.ensures.none s (Listed c.requires.plan.ways) plan.code run) (c.openings.ensures.silent s (Listed c.requires.plan.ways) plan.code run) (c.openings.ensures.waits s (Listed c.requires.plan.ways) plan.code run) in
    let laws = stream_laws plan c.requires.plan opening inputs stalls run c.regular.ensures.sends c.queues.ensures.next c.queues.ensures.look c.queue_sizes.ensures.held in
    let now : (with_items old.queues c.settle_all.new.queues).items ≡ c.settle_all.new.queues = with_items_is old.queues c.settle_all.new.queues (c.settle_all.auto.queues ∙ c.deref_mut-2.ensures.len) in
    let sent : List Seat → List Outboxed → ℕ → _ = λ seats outboxes. sent_from (system_of plan [] (λ agent. [])) date seats outboxes 0 (length plan.unit.agents) in
    subst (HaveRoom (sent c.deref-6.result.now c.deref-7.result.now)) (sym (c.deref_mut-3.ensures.value ∙ now))
    (subst (λ seats. HaveRoom (sent seats c.deref-7.result.now) c.settle_all.new.queues) (sym c.deref-6.ensures.value)
    (subst (λ outboxes. HaveRoom (sent old.seats.items outboxes) c.settle_all.new.queues) (sym c.deref-7.ensures.value)
    (has_room plan opening inputs stalls c.requires.plan.fits.bare lawful laws date begun (turns_by s order (date * plan.unit.quantum)) old c.requires.due stands c.settle_all.new.queues (c.settle_all.auto.queues ∙ ap length c.deref_mut-2.ensures.value)
    (λ stream queue at. c.settle_all.ensures stream queue (ap (λ xs. slice_get xs stream) c.deref_mut-2.ensures.value ∙ at)
    ∙ ap (λ xs. Some (settled_then date (first_date (timing_in plan (stream_at plan.unit stream).receiver)) (get_or xs (stream_at plan.unit stream).receiver nowhere) (get_or c.deref-5.result.now stream 0) queue)) c.deref-4.ensures.value
    ∙ ap (λ xs. Some (settled_then date (first_date (timing_in plan (stream_at plan.unit stream).receiver)) (get_or old.seats.items (stream_at plan.unit stream).receiver nowhere) (get_or xs stream 0) queue)) c.deref-5.ensures.value))))

pub publish_all-requires-clause-calendar : goal.publish_all-requires-clause-calendar
publish_all-requires-clause-calendar c = (c.requires.stands.5).calendar

pub pass-requires-clause-clocks : goal.pass-requires-clause-clocks
pass-requires-clause-clocks c = subst (All IsClock) (sym c.as_slice.ensures) c.requires.plan.fits.bare.clocks

pub pass-requires-clause-count : goal.pass-requires-clause-count
pass-requires-clause-count c = (c.requires.stands.5).calendar.count ∙ ap length (sym c.as_slice.ensures)

pub pass-requires-clause-nexts : goal.pass-requires-clause-nexts
pass-requires-clause-nexts c = subst (λ clocks. AreNext clocks c.args.date c.args.shared.now.calendar) (sym c.as_slice.ensures) (c.requires.stands.5).calendar.nexts

pub move_all-requires-clause-nexts : goal.move_all-requires-clause-nexts
move_all-requires-clause-nexts c = nexts_count c.args.plan.now c.requires.plan

pub move_all-requires-clause-calendar : goal.move_all-requires-clause-calendar
move_all-requires-clause-calendar c = record {
  count = c.pass.ensures.count ∙ (c.requires.stands.5).calendar.count;
  nexts = subst (λ clocks. AreNext clocks (c.args.date + 1) c.pass.new.self) c.as_slice.ensures c.pass.ensures.nexts;
}

-- Those that move end an action, as far as one does.
ends_known : (plan : Plan) (date : ℕ) (seats found : List Seat) (names told : List ℕ) (end : ℕ) → found ≡ seats → told ≡ names → end ≡ length seats → NamesAll (moves_in plan date seats) (length seats) 0 names → NamesAll (ends_in date found) end 0 told
ends_known plan date seats found names told end same are ends all = names_as (ends_in date) seats found (length seats) end names told same ends are (names_ends plan date seats (length seats) 0 names all)

pub commit_all-requires-clause-movers : goal.commit_all-requires-clause-movers
commit_all-requires-clause-movers c =
    ends_known c.args.plan.now c.args.date c.deref.result.now c.deref-2.result.now c.find.new.self.moved.agents c.agents-movers.result.now (length c.args.plan.now.unit.agents) (c.deref-2.ensures.value ∙ sym c.deref.ensures.value) c.agents-movers.ensures (sym (ap length c.deref.ensures.value ∙ (c.requires.stands.5).seated)) c.find.ensures.names

pub commit_all-requires-clause-known : goal.commit_all-requires-clause-known
commit_all-requires-clause-known c =
    let end = length c.args.plan.now.unit.agents in
    let all = ends_known c.args.plan.now c.args.date c.deref.result.now c.deref-2.result.now c.find.new.self.moved.agents c.agents-movers.result.now end (c.deref-2.ensures.value ∙ sym c.deref.ensures.value) c.agents-movers.ensures (sym (ap length c.deref.ensures.value ∙ (c.requires.stands.5).seated)) c.find.ensures.names in
    names_within (ends_in c.args.date c.deref-2.result.now) end 0 c.agents-movers.result.now all

pub enter_all-requires-clause-movers : goal.enter_all-requires-clause-movers
enter_all-requires-clause-movers c =
    ends_known c.args.plan.now c.args.date c.deref.result.now c.deref-6.result.now c.find.new.self.moved.agents c.agents-movers.result.now (length c.args.plan.now.unit.agents) (c.deref-6.ensures.value ∙ sym c.deref.ensures.value) c.agents-movers.ensures (sym (ap length c.deref.ensures.value ∙ (c.requires.stands.5).seated)) c.find.ensures.names

pub enter_all-requires-clause-known : goal.enter_all-requires-clause-known
enter_all-requires-clause-known c =
    let all = ends_known c.args.plan.now c.args.date c.deref.result.now c.deref-6.result.now c.find.new.self.moved.agents c.agents-movers.result.now (length c.deref-7.result.now) (c.deref-6.ensures.value ∙ sym c.deref.ensures.value) c.agents-movers.ensures (ap length c.deref-7.ensures.value ∙ (c.requires.stands.5).boxed ∙ sym (ap length c.deref.ensures.value ∙ (c.requires.stands.5).seated)) c.find.ensures.names in
    names_within (ends_in c.args.date c.deref-6.result.now) (length c.deref-7.result.now) 0 c.agents-movers.result.now all

pub clear_outboxes-requires-clause-movers : goal.clear_outboxes-requires-clause-movers
clear_outboxes-requires-clause-movers c =
    ends_known c.args.plan.now c.args.date c.deref.result.now c.deref-9.result.now c.find.new.self.moved.agents c.agents-movers.result.now (length c.deref_mut-5.result.now) (c.deref-9.ensures.value ∙ sym c.deref.ensures.value) c.agents-movers.ensures (ap length c.deref_mut-5.ensures.value ∙ (c.requires.stands.5).boxed ∙ sym (ap length c.deref.ensures.value ∙ (c.requires.stands.5).seated)) c.find.ensures.names

pub clear_outboxes-requires-clause-known : goal.clear_outboxes-requires-clause-known
clear_outboxes-requires-clause-known c =
    let all = ends_known c.args.plan.now c.args.date c.deref.result.now c.deref-9.result.now c.find.new.self.moved.agents c.agents-movers.result.now (length c.deref_mut-5.result.now) (c.deref-9.ensures.value ∙ sym c.deref.ensures.value) c.agents-movers.ensures (ap length c.deref_mut-5.ensures.value ∙ (c.requires.stands.5).boxed ∙ sym (ap length c.deref.ensures.value ∙ (c.requires.stands.5).seated)) c.find.ensures.names in
    names_within (ends_in c.args.date c.deref-9.result.now) (length c.deref_mut-5.result.now) 0 c.agents-movers.result.now all

pub clear_takes-requires-clause-movers : goal.clear_takes-requires-clause-movers
clear_takes-requires-clause-movers c =
    ends_known c.args.plan.now c.args.date c.deref.result.now c.deref-10.result.now c.find.new.self.moved.agents c.agents-movers.result.now (length c.deref-10.result.now) (c.deref-10.ensures.value ∙ sym c.deref.ensures.value) c.agents-movers.ensures (ap length (c.deref-10.ensures.value ∙ sym c.deref.ensures.value)) c.find.ensures.names

pub move_all-requires-clause-known : goal.move_all-requires-clause-known
move_all-requires-clause-known c =
    let all = names_as (moves_in c.args.plan.now c.args.date) c.deref.result.now c.deref_mut-7.result.now (length c.deref.result.now) (length c.deref_mut-7.result.now) c.find.new.self.moved.agents c.agents-movers.result.now (c.deref_mut-7.ensures.value ∙ sym c.deref.ensures.value) (ap length (c.deref_mut-7.ensures.value ∙ sym c.deref.ensures.value)) c.agents-movers.ensures c.find.ensures.names in
    names_within (moves_in c.args.plan.now c.args.date c.deref_mut-7.result.now) (length c.deref_mut-7.result.now) 0 c.agents-movers.result.now all

-- What is shared behind the date
abbrev new_of : goal.After-shared-8-1 → Shared
new_of c = record c.args.shared.now {
  rings = with_items c.args.shared.now.rings c.publish_all.new.rings;
  queues = with_items (with_items c.args.shared.now.queues c.settle_all.new.queues) c.enter_all.new.queues;
  outboxes = with_items c.args.shared.now.outboxes c.clear_outboxes.new.outboxes;
  taken = with_items c.args.shared.now.taken c.clear_takes.new.taken;
  committed = with_items c.args.shared.now.committed c.commit_all.new.committed;
  seats = with_items c.args.shared.now.seats c.move_all.new.seats;
  calendar = c.pass.new.self;
  movers = c.find.new.self;
  date = Some c.args.date;
}

-- What each call changed
moved_by : (c : goal.After-shared-8-1) → Moved c.args.plan.now c.args.shared.now.inputs.lists c.args.date c.args.shared.now (new_of c)
moved_by c =
    let plan = c.args.plan.now in
    let old = c.args.shared.now in
    let inputs = old.inputs.lists in
    let date = c.args.date in
    let committed : (with_items old.committed c.commit_all.new.committed).items ≡ c.commit_all.new.committed =
    with_items_is old.committed c.commit_all.new.committed (c.commit_all.auto.committed ∙ c.deref_mut.ensures.len) in
    let rings : (with_items old.rings c.publish_all.new.rings).items ≡ c.publish_all.new.rings =
    with_items_is old.rings c.publish_all.new.rings (c.publish_all.auto.rings ∙ c.deref_mut-4.ensures.len) in
    let settled : (with_items old.queues c.settle_all.new.queues).items ≡ c.settle_all.new.queues =
    with_items_is old.queues c.settle_all.new.queues (c.settle_all.auto.queues ∙ c.deref_mut-2.ensures.len) in
    let queues : (with_items (with_items old.queues c.settle_all.new.queues) c.enter_all.new.queues).items ≡ c.enter_all.new.queues =
    with_items_is (with_items old.queues c.settle_all.new.queues) c.enter_all.new.queues (c.enter_all.auto.queues ∙ c.deref_mut-3.ensures.len) in
    let boxes : (with_items old.outboxes c.clear_outboxes.new.outboxes).items ≡ c.clear_outboxes.new.outboxes =
    with_items_is old.outboxes c.clear_outboxes.new.outboxes (c.clear_outboxes.auto.outboxes ∙ c.deref_mut-5.ensures.len) in
    let takes : (with_items old.taken c.clear_takes.new.taken).items ≡ c.clear_takes.new.taken =
    with_items_is old.taken c.clear_takes.new.taken (c.clear_takes.auto.taken ∙ c.deref_mut-6.ensures.len) in
    let seats : (with_items old.seats c.move_all.new.seats).items ≡ c.move_all.new.seats =
    with_items_is old.seats c.move_all.new.seats (c.move_all.auto.seats ∙ c.deref_mut-7.ensures.len) in
    let calendar : CalendarStands plan.unit.clocks date old.calendar = (c.requires.stands.5).calendar in
    record {
      date_is = refl;
      seated = ap length seats ∙ c.move_all.auto.seats ∙ ap length c.deref_mut-7.ensures.value;
      seats = λ agent seat is. ap (λ xs. slice_get xs agent) seats ∙ c.move_all.ensures agent seat (ap (λ xs. slice_get xs agent) c.deref_mut-7.ensures.value ∙ is);
      valued = ap length committed ∙ c.commit_all.auto.committed ∙ ap length c.deref_mut.ensures.value;
      committed = λ variable l.
          ap (λ xs. get_or xs variable (pos 0)) committed
          ∙ c.commit_all.ensures variable l
          ∙ ap (λ xs. told xs c.deref-3.result.now c.deref_mut.result.now variable) c.deref-2.ensures.value
          ∙ ap (λ xs. told old.seats.items xs c.deref_mut.result.now variable) c.deref-3.ensures.value
          ∙ ap (λ xs. told old.seats.items old.ended.items xs variable) c.deref_mut.ensures.value;
      ended = refl;
      ringed = ap length rings ∙ c.publish_all.auto.rings ∙ ap length c.deref_mut-4.ensures.value;
      rings = λ variable ring is. ap (λ xs. slice_get xs variable) rings ∙ c.publish_all.ensures variable ring (ap (λ xs. slice_get xs variable) c.deref_mut-4.ensures.value ∙ is) ∙ ap (λ xs. Some (ring_then (system_of plan inputs (λ agent. [])) xs date variable ring)) c.deref-8.ensures.value;
      queued = ap length queues ∙ c.enter_all.auto.queues ∙ ap length (c.deref_mut-3.ensures.value ∙ settled) ∙ c.settle_all.auto.queues ∙ ap length c.deref_mut-2.ensures.value;
      queues = λ stream queue is.
          ap (λ xs. slice_get xs stream) queues
          ∙ c.enter_all.ensures stream (settles old.seats.items old.taken.items stream queue) (ap (λ xs. slice_get xs stream) (c.deref_mut-3.ensures.value ∙ settled)
          ∙ c.settle_all.ensures stream queue (ap (λ xs. slice_get xs stream) c.deref_mut-2.ensures.value ∙ is)
          ∙ ap (λ xs. Some (settles xs c.deref-5.result.now stream queue)) c.deref-4.ensures.value
          ∙ ap (λ xs. Some (settles old.seats.items xs stream queue)) c.deref-5.ensures.value)
          ∙ ap (λ xs. Some (with_entered (sent_from (system_of plan [] (λ agent. [])) date xs c.deref-7.result.now 0 (length plan.unit.agents) stream) (settles old.seats.items old.taken.items stream queue))) c.deref-6.ensures.value
          ∙ ap (λ xs. Some (with_entered (sent_from (system_of plan [] (λ agent. [])) date old.seats.items xs 0 (length plan.unit.agents) stream) (settles old.seats.items old.taken.items stream queue))) c.deref-7.ensures.value;
      boxed = ap length boxes ∙ c.clear_outboxes.auto.outboxes ∙ ap length c.deref_mut-5.ensures.value;
      outboxes = λ agent outbox is.
          ap (λ xs. slice_get xs agent) boxes
          ∙ c.clear_outboxes.ensures agent outbox (ap (λ xs. slice_get xs agent) c.deref_mut-5.ensures.value ∙ is)
          ∙ ap (λ xs. Some (if ends_at date (slice_get xs agent) then record outbox { sends = [] } else outbox)) c.deref-9.ensures.value;
      calendar = record {
        count = c.pass.ensures.count ∙ calendar.count;
        nexts = subst (λ clocks. AreNext clocks (date + 1) c.pass.new.self) c.as_slice.ensures c.pass.ensures.nexts;
      };
      room = c.find.ensures.size;
      stopped = c.find.ensures.stopped;
      names = names_as (moves_in plan date) c.deref.result.now old.seats.items (length c.deref.result.now) (length old.seats.items) c.find.new.self.moved.agents c.find.new.self.moved.agents (sym c.deref.ensures.value) (ap length (sym c.deref.ensures.value)) refl c.find.ensures.names;
      others = subst (λ seats. (agent : ℕ) (seat : Seat) → slice_get seats agent ≡ Some seat → moves_in plan date seats agent ≡ false → IsBefore c.find.new.self.least (first_in plan agent) seat seat.phase) c.deref.ensures.value c.find.ensures.others;
      taking = ap length takes ∙ c.clear_takes.auto.taken ∙ ap length c.deref_mut-6.ensures.value;
      taken = λ stream n is.
          ap (λ xs. slice_get xs stream) takes
          ∙ c.clear_takes.ensures stream n (ap (λ xs. slice_get xs stream) c.deref_mut-6.ensures.value ∙ is)
          ∙ ap (λ xs. Some (if ends_at date (slice_get xs (stream_at plan.unit stream).receiver) then 0 else n)) c.deref-10.ensures.value;
    }
  where
    told : List Seat → List ℤ → List ℤ → ℕ → ℤ
    told seats ended committed variable = if commits_at c.args.date seats (owner_of c.args.plan.now.unit.variables variable) then get_or ended variable (pos 0) else get_or committed variable (pos 0)

    settles : List Seat → List ℕ → ℕ → Queued → Queued
    settles seats taken stream queue =
        settled_then c.args.date (first_date (timing_in c.args.plan.now (stream_at c.args.plan.now.unit stream).receiver)) (get_or seats (stream_at c.args.plan.now.unit stream).receiver nowhere) (get_or taken stream 0) queue

pub returns-clause-stands : goal.returns-clause-stands
returns-clause-stands c opening stalls order sound behind stands =
    let plan = c.args.plan.now in
    let old = c.args.shared.now in
    let inputs = old.inputs.lists in
    let date = c.args.date in
    let s = opened_of plan opening inputs stalls in
    let bare = c.requires.plan.fits.bare in
    let run = goes_well_from plan c.requires.plan c.fitting.ensures c.openings.ensures.run opening inputs stalls c.requires.inputs sound in
    let lawful = c.regular.ensures.lawful s (Listed c.requires.plan.ways) plan.code run in
    let begun = are_begun s (Listed c.requires.plan.ways) plan.code c.args.date (sound c.requires.plan) behind (c.openings.ensures.none s (Listed c.requires.plan.ways) plan.code run) (c.openings.ensures.silent s (Listed c.requires.plan.ways) plan.code run) (c.openings.ensures.waits s (Listed c.requires.plan.ways) plan.code run) in
    let laws = stream_laws plan c.requires.plan opening inputs stalls run c.regular.ensures.sends c.queues.ensures.next c.queues.ensures.look c.queue_sizes.ensures.held in
    let cycles = date * plan.unit.quantum in
    let upto : cycles ≤ date * plan.unit.quantum = omega arith in
    shared_moves plan opening inputs stalls bare lawful laws date begun (turns_by s order cycles) (λ variable clock size. c.rings.ensures.next s date variable size lawful clock) (λ agent number new. c.given.ensures.unstarted s order date cycles agent number lawful bare.quantum.0 upto new) old (new_of c) c.requires.due stands (moved_by c)

pub returns-clause-begun : goal.returns-clause-begun
returns-clause-begun c agent begins =
    let plan = c.args.plan.now in
    let old = c.args.shared.now in
    let inputs = old.inputs.lists in
    let (opening, stalls, order, sound, behind, stands) = c.requires.stands in
    let s = opened_of plan opening inputs stalls in
    let run = goes_well_from plan c.requires.plan c.fitting.ensures c.openings.ensures.run opening inputs stalls c.requires.inputs sound in
    let lawful = c.regular.ensures.lawful s (Listed c.requires.plan.ways) plan.code run in
    let begun = are_begun s (Listed c.requires.plan.ways) plan.code c.args.date (sound c.requires.plan) behind (c.openings.ensures.none s (Listed c.requires.plan.ways) plan.code run) (c.openings.ensures.silent s (Listed c.requires.plan.ways) plan.code run) (c.openings.ensures.waits s (Listed c.requires.plan.ways) plan.code run) in
    let laws = stream_laws plan c.requires.plan opening inputs stalls run c.regular.ensures.sends c.queues.ensures.next c.queues.ensures.look c.queue_sizes.ensures.held in
    let turns = turns_by s order (c.args.date * plan.unit.quantum) in
    let moved = moved_by c in
    let new = new_of c in (
      box_begun plan opening inputs stalls c.requires.plan.fits.bare lawful laws c.args.date begun turns old c.requires.due stands new.seats.items moved.seated moved.seats new.outboxes.items moved.outboxes agent begins,
      take_begun plan opening inputs stalls c.requires.plan.fits.bare lawful laws c.args.date begun turns old c.requires.due stands new.seats.items moved.seated moved.seats new.taken.items moved.taken agent begins,
    )

pub returns-clause-going : goal.returns-clause-going
returns-clause-going c agent goes =
    let plan = c.args.plan.now in
    let old = c.args.shared.now in
    let inputs = old.inputs.lists in
    let (opening, stalls, order, sound, behind, stands) = c.requires.stands in
    let s = opened_of plan opening inputs stalls in
    let run = goes_well_from plan c.requires.plan c.fitting.ensures c.openings.ensures.run opening inputs stalls c.requires.inputs sound in
    let lawful = c.regular.ensures.lawful s (Listed c.requires.plan.ways) plan.code run in
    let begun = are_begun s (Listed c.requires.plan.ways) plan.code c.args.date (sound c.requires.plan) behind (c.openings.ensures.none s (Listed c.requires.plan.ways) plan.code run) (c.openings.ensures.silent s (Listed c.requires.plan.ways) plan.code run) (c.openings.ensures.waits s (Listed c.requires.plan.ways) plan.code run) in
    let laws = stream_laws plan c.requires.plan opening inputs stalls run c.regular.ensures.sends c.queues.ensures.next c.queues.ensures.look c.queue_sizes.ensures.held in
    let turns = turns_by s order (c.args.date * plan.unit.quantum) in
    let moved = moved_by c in
    let new = new_of c in (
      box_goes plan opening inputs stalls c.requires.plan.fits.bare lawful laws c.args.date begun turns old c.requires.due stands new.seats.items moved.seated moved.seats new.outboxes.items moved.outboxes agent goes,
      take_goes plan opening inputs stalls c.requires.plan.fits.bare lawful laws c.args.date begun turns old c.requires.due stands new.seats.items moved.seated moved.seats new.taken.items moved.taken agent goes,
    )

pub returns-clause-moved : goal.returns-clause-moved
returns-clause-moved c =
    let plan = c.args.plan.now in
    let old = c.args.shared.now in
    let inputs = old.inputs.lists in
    let date = c.args.date in
    let (opening, stalls, order, sound, behind, stands) = c.requires.stands in
    let s = opened_of plan opening inputs stalls in
    let bare = c.requires.plan.fits.bare in
    let run = goes_well_from plan c.requires.plan c.fitting.ensures c.openings.ensures.run opening inputs stalls c.requires.inputs sound in
    let lawful = c.regular.ensures.lawful s (Listed c.requires.plan.ways) plan.code run in
    let begun = are_begun s (Listed c.requires.plan.ways) plan.code date (sound c.requires.plan) behind (c.openings.ensures.none s (Listed c.requires.plan.ways) plan.code run) (c.openings.ensures.silent s (Listed c.requires.plan.ways) plan.code run) (c.openings.ensures.waits s (Listed c.requires.plan.ways) plan.code run) in
    let laws = stream_laws plan c.requires.plan opening inputs stalls run c.regular.ensures.sends c.queues.ensures.next c.queues.ensures.look c.queue_sizes.ensures.held in
    let cycles = date * plan.unit.quantum in
    let upto : cycles ≤ date * plan.unit.quantum = omega arith in
    starts_known plan opening inputs stalls bare lawful laws date begun (turns_by s order cycles) (λ variable clock size. c.rings.ensures.next s date variable size lawful clock) (λ agent number new. c.given.ensures.unstarted s order date cycles agent number lawful bare.quantum.0 upto new) old (new_of c) c.requires.due stands (moved_by c)
