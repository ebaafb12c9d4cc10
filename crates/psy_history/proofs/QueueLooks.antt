-- What a receiver's action finds in front of a stream's queue, and that what becomes visible is held.
use Rattle.std.proofs.Common.{◌≡◌, ℕ, suc, ◌+◌, ◌<◌, ◌≤◌, Bool, true, false, not, ◌&&◌, nat_lt, if◌then◌else◌, List, [], ◌∷◌, length, Some, add-one, refl, sym, ap, ◌∙◌, subst, inl, inr, arith}
use Rattle.std.specs.Prelude.{◌==◌, filter, nat_le, slice_get, take}
use Rattle.std.specs.List.{Contains}
use Rattle.std.proofs.lemmas.Bool.{and_right, cases_Bool, eqb-true, le-leb, leb-true, lt-leb}
use Rattle.std.proofs.lemmas.Option.{get_or_from_slice_get}
use Rattle.psy_base.specs.declared.message.Message.{Message}
use Rattle.psy_lists.proofs.lemmas.Members.{contains_front, contains_behind, filter_in, filter_from}
use Rattle.psy_tree.specs.declared.unit.StreamDecl.{StreamDecl}
use Rattle.psy_history.specs.Actions.{Action, System, Done, is_done, is_done_by, is_silent, stream_of}
use Rattle.psy_history.specs.History.{history}
use Rattle.psy_history.specs.Visible.{is_fresh, is_held, is_in_view, is_untaken, messages, seen_at, swept}
use Rattle.psy_history.specs.Queues.{queue_of}
use Rattle.psy_history.proofs.HeldMessages.{StaysThere, contains_queue, from_view, in_view, new_stays, strictly_queue}
use Rattle.psy_history.proofs.LastActions.{EndedBy, done_by, ended_before, ended_by, last_began}
use Rattle.psy_history.proofs.MessageOrder.{same_messages, seen_front, strictly_filter}
use Rattle.psy_history.proofs.NextStarts.{regular_head}
use Rattle.psy_history.proofs.SentMessages.{AreClockLaws, HasStreams, message_dates, sent_known, strictly_messages}
use Rattle.psy_history.proofs.TakenMessages.{untaken_alike, untaken_behind}

-- ---- lists

-- A filter in front takes nothing away where it lets through all that the other does.
filter_through : {X : Type 0} (p q : X → Bool) (xs : List X) → ((x : X) → Contains xs x → p x ≡ true → q x ≡ true) → filter p xs ≡ filter p (filter q xs)
filter_through p q [] through = refl
filter_through p q (x ∷ xs) through =
    let rest = filter_through p q xs (λ y c. through y (contains_behind x xs y c)) in
    elim (cases_Bool (p x)) [
      | inl here ↦ (let also = through x (contains_front x xs) here in rw (here, also) (rw here (ap (λ ys. x ∷ ys) rest)))
      | inr gone ↦ elim (cases_Bool (q x)) [
        | inl passes ↦ rw (gone, passes) (rw gone rest)
        | inr fails ↦ rw (gone, fails) rest
      ]
    ]

-- ---- what actions took

-- Where all actions had ended by a date, no more was taken by a later one.
untaken_later : (stream by later : ℕ) (actions : List Action) (m : Message) → by ≤ later → ((x : Action) → Contains actions x → EndedBy by x) → is_untaken stream later actions m ≡ is_untaken stream by actions m
untaken_later stream by later actions m l ended = untaken_alike stream later by actions m (λ x c. let its = ended x c in done_by by later x l its ∙ sym (done_by by by x (omega arith) its))

module _ (s : System) (streams : HasStreams s) (laws : AreClockLaws) where
  module _ (date stream : ℕ) where
    abbrev receiver : ℕ
    receiver = (stream_of s stream).receiver

    abbrev quiet : Bool
    quiet = s.opening.silent receiver

    -- ---- what the last action saw

    module _ (r : Action) (before : List Action) (e : history s (suc date) receiver ≡ r ∷ before) (loud : is_silent date (r ∷ before) ≡ false) (going : is_done_by date r.verdict ≡ false) where
      -- how it began
      began : (r.start < suc date) × (history s r.start receiver ≡ before) × (r.seen ≡ seen_at s (history s r.start) r.start)
      began = last_began s (suc date) receiver r before e

      -- since its start nothing was taken
      untaken_same : (m : Message) → is_untaken stream date (history s (suc date) receiver) m ≡ is_untaken stream r.start (history s r.start receiver) m
      untaken_same m =
          ap (λ actions. is_untaken stream date actions m) e
          ∙ untaken_behind stream date r before m going
          ∙ untaken_later stream r.start date before m (omega (arith, began.0)) (ended_before s streams.lawful (suc date) receiver r before e)
          ∙ ap (λ actions. is_untaken stream r.start actions m) (sym began.1)

      -- nor swept away
      fresh_same : (m : Message) → is_fresh (swept quiet date (history s (suc date) receiver)) m ≡ nat_lt r.start m.expiry
      fresh_same m = ap (λ actions. is_fresh (swept quiet date actions) m) e ∙ ap (λ b. nat_lt (if b then date else r.start) m.expiry) loud

      abbrev held_then : List Message
      held_then = filter (λ (m : Message). nat_le m.visible r.start) (queue_of s (suc date) stream)

      abbrev seen_then : List Message
      seen_then = seen_at s (history s r.start) r.start stream

      held_was_seen : (m : Message) → Contains held_then m → Contains seen_then m
      held_was_seen m c =
          let (of_queue, visible) = filter_from (λ (x : Message). nat_le x.visible r.start) (queue_of s (suc date) stream) m c in
          let ((sent, untaken, fresh), entered) = (contains_queue s streams laws date stream m).0 of_queue in
          let dates = message_dates s streams laws (history s (suc date)) stream m sent in
          let early : m.entry ≤ r.start = omega (arith, dates.0, leb-true m.visible r.start visible) in
          filter_in (is_in_view stream r.start (history s r.start receiver)) (messages s (history s r.start) stream) m
          (sent_known s streams laws (suc date) r.start stream m early sent)
          (from_view stream r.start (history s r.start receiver) m (record { entered = early; visible = leb-true m.visible r.start visible; fresh = sym (fresh_same m) ∙ fresh; untaken = sym (untaken_same m) ∙ untaken }))

      seen_is_held : (m : Message) → Contains seen_then m → Contains held_then m
      seen_is_held m c =
          let (sent, is) = filter_from (is_in_view stream r.start (history s r.start receiver)) (messages s (history s r.start) stream) m c in
          let view = in_view stream r.start (history s r.start receiver) m is in
          let early : m.entry ≤ date = omega (arith, began.0, view.entered) in
          let there = sent_known s streams laws r.start (suc date) stream m (omega (arith, early)) sent in
          let stays : StaysThere s date stream m = (there, untaken_same m ∙ view.untaken, fresh_same m ∙ view.fresh) in
          filter_in (λ (x : Message). nat_le x.visible r.start) (queue_of s (suc date) stream) m ((contains_queue s streams laws date stream m).1 (stays, early)) (le-leb m.visible r.start view.visible)

      -- Of the messages held, those that could be seen at its start are what it saw.
      pub seen_held : filter (λ (m : Message). nat_le m.visible r.start) (queue_of s (suc date) stream) ≡ r.seen stream
      seen_held =
          same_messages held_then seen_then
          (strictly_filter (λ (m : Message). nat_le m.visible r.start) (queue_of s (suc date) stream) (strictly_queue s streams laws (suc date) stream))
          (strictly_filter (is_in_view stream r.start (history s r.start receiver)) (messages s (history s r.start) stream) (strictly_messages s streams laws r.start stream))
          (λ m. (held_was_seen m, seen_is_held m))
          ∙ ap (λ seen. seen stream) (sym began.2)

      -- They stand in front.
      pub seen_in_front : take (length (r.seen stream)) (queue_of s (suc date) stream) ≡ r.seen stream
      seen_in_front =
          ap (λ seen. take (length seen) (queue_of s (suc date) stream)) (sym seen_held)
          ∙ sym (seen_front r.start (queue_of s (suc date) stream) (strictly_queue s streams laws (suc date) stream))
          ∙ seen_held

    -- ---- what becomes visible

    new_is_held : (m : Message) → Contains (messages s (history s (suc date)) stream) m → (m.visible == date) ≡ true → is_held quiet stream date (history s (suc date) receiver) m ≡ true
    new_is_held m c is =
        let at : m.visible ≡ date = eqb-true m.visible date is in
        let dates = message_dates s streams laws (history s (suc date)) stream m c in
        let held = (contains_queue s streams laws date stream m).1 (new_stays s streams laws date stream m c (omega (arith, at)), omega (arith, dates.0, at)) in
        (filter_from (is_held quiet stream date (history s (suc date) receiver)) (messages s (history s (suc date)) stream) m held).1

    -- What becomes visible at a date is held then.
    pub new_held : filter (λ (m : Message). m.visible == date) (messages s (history s (suc date)) stream) ≡ filter (λ (m : Message). m.visible == date) (queue_of s (suc date) stream)
    new_held = filter_through (λ (m : Message). m.visible == date) (is_held quiet stream date (history s (suc date) receiver)) (messages s (history s (suc date)) stream) new_is_held

  -- ---- the laws

  -- What becomes visible at a date is held when that date is done.
  pub shows_is : (date stream : ℕ) → filter (λ (m : Message). m.visible == date) (messages s (history s (date + 1)) stream) ≡ filter (λ (m : Message). m.visible == date) (queue_of s (date + 1) stream)
  shows_is date stream =
      subst (λ next. filter (λ (m : Message). m.visible == date) (messages s (history s next) stream) ≡ filter (λ (m : Message). m.visible == date) (queue_of s next stream)) (sym (add-one date)) (new_held date stream)

  -- Before its deadline an action isn't done, nor is its agent silent.
  going_on : (date agent : ℕ) (r : Action) (before : List Action) → history s (suc date) agent ≡ r ∷ before → date < r.deadline → (is_silent date (r ∷ before) ≡ false) × (is_done_by date r.verdict ≡ false)
  going_on date agent r before e l = (
    and_right (not (is_done r.verdict)) (nat_le r.deadline date) (lt-leb r.deadline date l),
    elim (cases_Bool (is_done_by date r.verdict)) [
      | inl done ↦ (
          let (point, end, is, early) = ended_by date r done in
          let regular = regular_head s streams.lawful (suc date) agent r before e in
          absurd (omega (arith, l, early, (regular.ends point end is).2)))
      | inr not_yet ↦ not_yet
    ],
  )

  look_then : (date stream : ℕ) (r : Action) (before : List Action) → history s (suc date) (stream_of s stream).receiver ≡ r ∷ before → date < r.deadline
      → (filter (λ (m : Message). nat_le m.visible r.start) (queue_of s (suc date) stream) ≡ r.seen stream) × (take (length (r.seen stream)) (queue_of s (suc date) stream) ≡ r.seen stream)
  look_then date stream r before e l =
      let (loud, going) = going_on date (stream_of s stream).receiver r before e l in
      (seen_held date stream r before e loud going, seen_in_front date stream r before e loud going)

  -- The stream is one of the receiver's.
  its_stream : (date stream agent : ℕ) (decl : StreamDecl) (r : Action) (before : List Action) → slice_get s.unit.streams stream ≡ Some decl → decl.receiver ≡ agent → history s (date + 1) agent ≡ r ∷ before
      → history s (suc date) (stream_of s stream).receiver ≡ r ∷ before
  its_stream date stream agent decl r before at is e =
      let its : agent ≡ (stream_of s stream).receiver = sym is ∙ ap (λ (d : StreamDecl). d.receiver) (sym (get_or_from_slice_get s.unit.streams stream decl _ at)) in
      subst (λ a. history s (suc date) a ≡ r ∷ before) its (subst (λ n. history s n agent ≡ r ∷ before) (add-one date) e)

  -- Before its deadline the receiver's action finds in front what it saw at its start.
  pub look_is : (date stream agent : ℕ) (decl : StreamDecl) (r : Action) (before : List Action) → slice_get s.unit.streams stream ≡ Some decl → decl.receiver ≡ agent → history s (date + 1) agent ≡ r ∷ before → date < r.deadline
      → (filter (λ (m : Message). nat_le m.visible r.start) (queue_of s (date + 1) stream) ≡ r.seen stream) × (take (length (r.seen stream)) (queue_of s (date + 1) stream) ≡ r.seen stream)
  look_is date stream agent decl r before at is e l =
      subst (λ next. (filter (λ (m : Message). nat_le m.visible r.start) (queue_of s next stream) ≡ r.seen stream) × (take (length (r.seen stream)) (queue_of s next stream) ≡ r.seen stream)) (sym (add-one date))
      (look_then date stream r before (its_stream date stream agent decl r before at is e) l)

  -- So does one that has reached a point whose date is still to come.
  pub ended_is : (date stream agent point end : ℕ) (decl : StreamDecl) (r : Action) (before : List Action) → slice_get s.unit.streams stream ≡ Some decl → decl.receiver ≡ agent → history s (date + 1) agent ≡ r ∷ before
      → r.verdict ≡ Done point end → date < end → take (length (r.seen stream)) (queue_of s (date + 1) stream) ≡ r.seen stream
  ended_is date stream agent point end decl r before at is e done l =
      let loud : is_silent date (r ∷ before) ≡ false = ap (λ v. not (is_done v) && nat_le r.deadline date) done in
      let going : is_done_by date r.verdict ≡ false = ap (is_done_by date) done ∙ lt-leb end date l in
      subst (λ next. take (length (r.seen stream)) (queue_of s next stream) ≡ r.seen stream) (sym (add-one date))
      (seen_in_front date stream r before (its_stream date stream agent decl r before at is e) loud going)
