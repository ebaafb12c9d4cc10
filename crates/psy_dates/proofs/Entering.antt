-- Messages that enter the queues of their streams, one after the other.
use Rattle.std.proofs.Common.{◌≡◌, ℕ, zero, suc, ◌+◌, ◌-◌, ◌<◌, ◌≤◌, Bool, true, false, List, [], ◌∷◌, ◌++◌, drop, length, get_or, Some, refl, sym, ap, subst, ◌∙◌, inl, inr, arith}
use Rattle.std.specs.Prelude.{if◌then◌else◌, slice_get, ◌==◌}
use Rattle.std.proofs.lemmas.Bool.{cases_eq, cond-true, cond-false, eq-eqb, ne_eqb}
use Rattle.std.proofs.lemmas.List.{drop_more, length-append}
use Rattle.std.proofs.lemmas.Option.{same_Some, slice_get-get_or, slice_get_within}
use Rattle.psy_base.specs.declared.message.Message.{Message}
use Rattle.psy_code.specs.declared.look.Sent.{Sent}
use Rattle.psy_queue.specs.Order.{Queued, comes_before, put_in_order}
use Rattle.psy_history.specs.Actions.{System}
use Rattle.psy_history.specs.Visible.{message_of, messages_from}
use Rattle.psy_history.specs.Queues.{entered}
use Rattle.psy_dates.specs.declared.seat.Seat.{Seat}
use Rattle.psy_dates.specs.Messages.{HaveEntered, HaveRoom, sends_of, sent_by, sent_from, with_entered}
use Rattle.psy_dates.specs.Movers.{NamesAll, ends_in}
use Rattle.psy_dates.specs.Moves.{ends_at}
use Rattle.psy_dates.specs.Outboxes.{Outboxed}
use Rattle.psy_dates.proofs.lemmas.Names.{named_last, named_next}

-- ---- one queue

longer_by : (m n : Message) (ns : List Message) (test : Bool) → length (put_in_order m ns) ≡ suc (length ns) → length (if test then m ∷ n ∷ ns else n ∷ put_in_order m ns) ≡ suc (suc (length ns))
longer_by m n ns true h = refl
longer_by m n ns false h = ap suc h

-- A queue holds one more where one is put in its place
pub length_placed : (m : Message) (ns : List Message) → length (put_in_order m ns) ≡ suc (length ns)
length_placed m [] = refl
length_placed m (n ∷ ns) = longer_by m n ns (comes_before m n) (length_placed m ns)

-- As many more as enter
pub length_entered : (more messages : List Message) → length (entered more messages) ≡ length more + length messages
length_entered [] messages = omega arith
length_entered (m ∷ more) messages = omega (arith, length_entered more (put_in_order m messages), length_placed m messages)

-- Some enter, and then more
pub entered_both : (some more messages : List Message) → entered (some ++ more) messages ≡ entered more (entered some messages)
entered_both [] more messages = refl
entered_both (m ∷ some) more messages = entered_both some more (put_in_order m messages)

-- ---- a message, and then the rest

-- By stream what enters, where the first of it is a message to this stream
abbrev pub with_first : ℕ → Message → (ℕ → List Message) → ℕ → List Message
with_first to m rest stream = if to == stream then m ∷ rest stream else rest stream

-- What is left to enter of numbered sends: the message of the first of them, and the rest
pub left_is : (s : System) (agent end : ℕ) (sends : List Sent) (none : Sent) (number stream : ℕ) → number < length sends
    → messages_from s stream agent end number (drop number sends) ≡ with_first (get_or sends number none).stream (message_of s agent end number (get_or sends number none)) (λ to. messages_from s to agent end (number + 1) (drop (number + 1) sends)) stream
left_is s agent end sends none number stream l = ap (messages_from s stream agent end number) (drop_more sends number none l)

module _ (to : ℕ) (m : Message) (rest : ℕ → List Message) (queues : List Queued) (queue : Queued) (at : slice_get queues to ≡ Some queue) where
  first_here : with_first to m rest to ≡ m ∷ rest to
  first_here = cond-true (to == to) (m ∷ rest to) (rest to) (eq-eqb to to refl)

  first_other : (stream : ℕ) → (stream ≡ to → ⊥) → with_first to m rest stream ≡ rest stream
  first_other stream other = cond-false (to == stream) (m ∷ rest stream) (rest stream) (ne_eqb to stream (λ e. other (sym e)))

  -- there is room for the first
  pub room_at : HaveRoom (with_first to m rest) queues → length queue.messages < queue.size
  room_at room = (let here = subst (λ xs. length xs + length queue.messages ≤ queue.size) first_here (room to queue at) in omega (arith, here))

  -- it has entered
  module _ (after : List Queued) (there : slice_get after to ≡ Some (with_entered (m ∷ []) queue)) (others : (stream : ℕ) → (stream ≡ to → ⊥) → slice_get after stream ≡ slice_get queues stream) where
    room_here : HaveRoom (with_first to m rest) queues → (held : Queued) → slice_get after to ≡ Some held → length (rest to) + length held.messages ≤ held.size
    room_here room held is =
        let here = subst (λ xs. length xs + length queue.messages ≤ queue.size) first_here (room to queue at) in
        let more : length (rest to) + length (put_in_order m queue.messages) ≤ queue.size = omega (arith, here, length_placed m queue.messages) in
        subst (λ (q : Queued). length (rest to) + length q.messages ≤ q.size) (same_Some _ _ (sym there ∙ is)) more

    -- there is room for the rest
    pub room_left : HaveRoom (with_first to m rest) queues → HaveRoom rest after
    room_left room stream held is = elim (cases_eq stream to) [
      | inl same ↦ subst (λ k. length (rest k) + length held.messages ≤ held.size) (sym same) (room_here room held (ap (slice_get after) (sym same) ∙ is))
      | inr other ↦ subst (λ xs. length xs + length held.messages ≤ held.size) (first_other stream other) (room stream held (sym (others stream other) ∙ is))
    ]

    enters_here : (last : List Queued) → HaveEntered rest after last → slice_get last to ≡ Some (with_entered (with_first to m rest to) queue)
    enters_here last on = on to (with_entered (m ∷ []) queue) there ∙ ap (λ xs. Some (with_entered xs queue)) (sym first_here)

    -- where the rest has entered then, all has
    pub enters_first : (last : List Queued) → HaveEntered rest after last → HaveEntered (with_first to m rest) queues last
    enters_first last on stream held is = elim (cases_eq stream to) [
      | inl same ↦ (
          let now : queue ≡ held = same_Some _ _ (sym at ∙ ap (slice_get queues) (sym same) ∙ is) in
          ap (slice_get last) same ∙ enters_here last on ∙ ap (λ k. Some (with_entered (with_first to m rest k) queue)) (sym same) ∙ ap (λ (q : Queued). Some (with_entered (with_first to m rest stream) q)) now)
      | inr other ↦ on stream held (others stream other ∙ is) ∙ ap (λ xs. Some (with_entered xs held)) (sym (first_other stream other))
    ]

-- ---- some messages, and then the rest

-- What is left to enter of so many agents' messages: those of the first of them, and the rest
pub both_are : (s : System) (date : ℕ) (seats : List Seat) (outboxes : List Outboxed) (agent agents stream : ℕ) → agent < agents
    → sent_from s date seats outboxes agent (agents - agent) stream ≡ sent_by s date seats outboxes stream agent ++ sent_from s date seats outboxes (agent + 1) (agents - (agent + 1)) stream
both_are s date seats outboxes agent agents stream l =
    (let more : agents - agent ≡ suc (agents - (agent + 1)) = omega (arith, l) in ap (λ n. sent_from s date seats outboxes agent n stream) more)

-- The same, where it is known whether the first of them ends its action there, and what it sent
pub both_told : (s : System) (date : ℕ) (seats : List Seat) (outboxes : List Outboxed) (agent agents : ℕ) (ends : Bool) (sends : List Sent) → agent < agents → ends ≡ ends_at date (slice_get seats agent) → sends ≡ sends_of outboxes agent
    → (stream : ℕ) → sent_from s date seats outboxes agent (agents - agent) stream ≡ (if ends then messages_from s stream agent date 0 sends else []) ++ sent_from s date seats outboxes (agent + 1) (agents - (agent + 1)) stream
both_told s date seats outboxes agent agents ends sends l at are stream =
    let rest = sent_from s date seats outboxes (agent + 1) (agents - (agent + 1)) stream in
    both_are s date seats outboxes agent agents stream l
    ∙ ap (λ sends. (if ends_at date (slice_get seats agent) then messages_from s stream agent date 0 sends else []) ++ rest) (sym are)
    ∙ ap (λ (ends : Bool). (if ends then messages_from s stream agent date 0 sends else []) ++ rest) (sym at)

module _ (some rest all : ℕ → List Message) (both : (stream : ℕ) → all stream ≡ some stream ++ rest stream) (queues after : List Queued) where
  long : (stream : ℕ) → length (all stream) ≡ length (some stream) + length (rest stream)
  long stream = ap length (both stream) ∙ length-append (some stream) (rest stream)

  pub room_for_some : HaveRoom all queues → HaveRoom some queues
  room_for_some room stream queue is = omega (arith, room stream queue is, long stream)

  module _ (same : length after ≡ length queues) (entered_some : HaveEntered some queues after) where
    pub room_for_rest : HaveRoom all queues → HaveRoom rest after
    room_for_rest room stream held is =
        let within : stream < length queues = omega (arith, slice_get_within after stream held is, same) in
        let queue = get_or queues stream (record { size = 0; messages = [] }) in
        let at : slice_get queues stream ≡ Some queue = slice_get-get_or queues stream (record { size = 0; messages = [] }) within in
        let more : length (rest stream) + length (entered (some stream) queue.messages) ≤ queue.size = omega (arith, room stream queue at, long stream, length_entered (some stream) queue.messages) in
        subst (λ (q : Queued). length (rest stream) + length q.messages ≤ q.size) (same_Some _ _ (sym (entered_some stream queue at) ∙ is)) more

    pub enters_both : (last : List Queued) → HaveEntered rest after last → HaveEntered all queues last
    enters_both last on stream queue is =
        on stream (with_entered (some stream) queue) (entered_some stream queue is)
        ∙ ap (λ messages. Some (record queue { messages = messages })) (sym (entered_both (some stream) (rest stream) queue.messages))
        ∙ ap (λ xs. Some (with_entered xs queue)) (sym (both stream))

-- ---- the agents that a list names

-- The same messages
pub same_room : (some other : ℕ → List Message) (queues : List Queued) → ((stream : ℕ) → some stream ≡ other stream) → HaveRoom some queues → HaveRoom other queues
same_room some other queues same room stream queue at = subst (λ xs. length xs + length queue.messages ≤ queue.size) (same stream) (room stream queue at)

pub same_entered : (some other : ℕ → List Message) (before after : List Queued) → ((stream : ℕ) → some stream ≡ other stream) → HaveEntered some before after → HaveEntered other before after
same_entered some other before after same entered stream queue at = entered stream queue at ∙ ap (λ xs. Some (with_entered xs queue)) (same stream)

module _ (s : System) (date : ℕ) (seats : List Seat) (outboxes : List Outboxed) (end : ℕ) where
  -- What is left to enter, from an agent on
  abbrev pub left_from : ℕ → ℕ → List Message
  left_from agent = sent_from s date seats outboxes agent (end - agent)

  -- What enters in all
  abbrev pub in_all : ℕ → List Message
  in_all = sent_from s date seats outboxes 0 end

  pub all_left : (stream : ℕ) → in_all stream ≡ left_from 0 stream
  all_left stream = (let same : end ≡ end - 0 = omega arith in ap (λ n. sent_from s date seats outboxes 0 n stream) same)

  -- Agents that end no action add nothing.
  passed_over : (n at stream : ℕ) → at + n ≤ end → ((agent : ℕ) → at ≤ agent → agent < at + n → ends_in date seats agent ≡ false) → left_from at stream ≡ left_from (at + n) stream
  passed_over zero at stream within none = (let same : at ≡ at + 0 = omega arith in ap (λ k. left_from k stream) same)
  passed_over (suc n) at stream within none =
      let next : at + 1 + n ≡ at + suc n = omega arith in
      let rest = left_from (at + 1) stream in
      both_are s date seats outboxes at end stream (omega (arith, within))
      ∙ ap (λ xs. xs ++ rest) (cond-false (ends_in date seats at) (messages_from s stream at date 0 (sends_of outboxes at)) [] (none at (omega arith) (omega arith)))
      ∙ passed_over n (at + 1) stream (omega (arith, within)) (λ agent low high. none agent (omega (arith, low)) (omega (arith, high)))
      ∙ ap (λ k. left_from k stream) next

  pub passed_to : (at to : ℕ) → at ≤ to → to ≤ end → ((agent : ℕ) → at ≤ agent → agent < to → ends_in date seats agent ≡ false) → (stream : ℕ) → left_from at stream ≡ left_from to stream
  passed_to at to low high none stream =
      let is : at + (to - at) ≡ to = omega (arith, low) in
      passed_over (to - at) at stream (omega (arith, low, high)) (λ agent l h. none agent l (omega (arith, h, low))) ∙ ap (λ k. left_from k stream) is

  -- Up to the one that is named next all have entered, and the rest of the list names the others.
  pub record Entered (names : List ℕ) (place : ℕ) (first now : List Queued) : Type 0 where
    pub next : ℕ
    pub within : next ≤ end
    pub room : HaveRoom (left_from next) now
    pub enters : (after : List Queued) → HaveEntered (left_from next) now after → HaveEntered in_all first after
    pub left : NamesAll (ends_in date seats) end next (drop place names)

  pub none_entered : (names : List ℕ) (first : List Queued) → NamesAll (ends_in date seats) end 0 names → HaveRoom in_all first → Entered names 0 first first
  none_entered names first all room = record {
    next = 0;
    within = omega arith;
    room = same_room in_all (left_from 0) first all_left room;
    enters = λ after on. same_entered (left_from 0) in_all first after (λ stream. sym (all_left stream)) on;
    left = all;
  }

  module _ (names : List ℕ) (place : ℕ) (first now : List Queued) (e : Entered names place first now) where
    -- There is room for those of the one that is named next, and of those behind it.
    pub room_next : place < length names → HaveRoom (left_from (get_or names place 0)) now
    room_next l =
        let (up, inside, gap, rest) = named_next (ends_in date seats) end e.next names place l e.left in
        same_room (left_from e.next) (left_from (get_or names place 0)) now (passed_to e.next (get_or names place 0) up (omega (arith, inside)) gap) e.room

    pub enters_next : place < length names → (after : List Queued) → HaveEntered (left_from (get_or names place 0)) now after → HaveEntered in_all first after
    enters_next l after on =
        let (up, inside, gap, rest) = named_next (ends_in date seats) end e.next names place l e.left in
        e.enters after (same_entered (left_from (get_or names place 0)) (left_from e.next) now after (λ stream. sym (passed_to e.next (get_or names place 0) up (omega (arith, inside)) gap stream)) on)

    -- Once all were gone through all have entered.
    pub all_entered : length names ≤ place → HaveEntered in_all first now
    all_entered l =
        let none = named_last (ends_in date seats) end e.next names place l e.left in
        let over : end - end ≡ 0 = omega arith in
        e.enters now (λ stream queue at. at ∙ ap (λ xs. Some (with_entered xs queue)) (sym (passed_to e.next end e.within (omega arith) none stream ∙ ap (λ n. sent_from s date seats outboxes end n stream) over)))
