-- What a stream holds when a date is done: what has entered by then, stays untaken, and wasn't swept away.
use Rattle.std.proofs.Common.{◌≡◌, ◌↔◌, ℕ, zero, suc, ◌<◌, ◌≤◌, Bool, true, false, if◌then◌else◌, List, [], ◌∷◌, refl, ap, ◌∙◌, subst, inl, inr, arith}
use Rattle.std.specs.Prelude.{◌&&◌, nat_le, nat_lt}
use Rattle.std.specs.List.{Contains}
use Rattle.std.proofs.lemmas.Bool.{and_from, and_parts, cases_Bool, false_from_ne_true, le-leb, leb-true, lt-ltb}
use Rattle.std.proofs.lemmas.List.Elements.{All-contains}
use Rattle.psy_base.specs.declared.message.Message.{Message}
use Rattle.psy_lists.proofs.lemmas.Members.{contains_front, filter_in, filter_from}
use Rattle.psy_queue.specs.Order.{comes_before}
use Rattle.psy_history.specs.Actions.{Action, System, is_silent, stream_of}
use Rattle.psy_history.specs.History.{history}
use Rattle.psy_history.specs.Visible.{is_fresh, is_held, is_in_view, is_same, is_untaken, messages, seen_at, swept}
use Rattle.psy_history.specs.Queues.{queue_of}
use Rattle.psy_history.specs.Regular.{IsRegular}
use Rattle.psy_history.proofs.LastActions.{ended_by}
use Rattle.psy_history.proofs.MessageOrder.{pairs_none, same_entry, strictly, strictly_filter}
use Rattle.psy_history.proofs.SentMessages.{AreClockLaws, HasStreams, message_dates, strictly_messages}
use Rattle.psy_history.proofs.StartedActions.{start_below, was_started}
use Rattle.psy_history.proofs.TakenMessages.{untaken_new}

-- ---- what is in view

-- What is known of a message in view
pub record InView (stream date : ℕ) (actions : List Action) (m : Message) : Type 0 where
  pub entered : m.entry ≤ date
  pub visible : m.visible ≤ date
  pub fresh : nat_lt date m.expiry ≡ true
  pub untaken : is_untaken stream date actions m ≡ true

-- The test says so,
pub in_view : (stream date : ℕ) (actions : List Action) (m : Message) → is_in_view stream date actions m ≡ true → InView stream date actions m
in_view stream date actions m e =
    let entered = and_parts (nat_le m.entry date) (nat_le m.visible date && (nat_lt date m.expiry && is_untaken stream date actions m)) e in
    let visible = and_parts (nat_le m.visible date) (nat_lt date m.expiry && is_untaken stream date actions m) entered.1 in
    let rest = and_parts (nat_lt date m.expiry) (is_untaken stream date actions m) visible.1 in
    record { entered = leb-true m.entry date entered.0; visible = leb-true m.visible date visible.0; fresh = rest.0; untaken = rest.1 }

-- And so much passes the test.
pub from_view : (stream date : ℕ) (actions : List Action) (m : Message) → InView stream date actions m → is_in_view stream date actions m ≡ true
from_view stream date actions m is =
    and_from (nat_le m.entry date) (nat_le m.visible date && (nat_lt date m.expiry && is_untaken stream date actions m)) (le-leb m.entry date is.entered)
    (and_from (nat_le m.visible date) (nat_lt date m.expiry && is_untaken stream date actions m) (le-leb m.visible date is.visible) (and_from (nat_lt date m.expiry) (is_untaken stream date actions m) is.fresh is.untaken))

-- ---- what is held

-- When a date is done the message has been sent, none of the receiver's actions has taken it, and it wasn't swept away.
abbrev pub StaysThere : System → ℕ → ℕ → Message → Type 0
StaysThere s date stream m =
    let receiver = (stream_of s stream).receiver in
    let actions = history s (suc date) receiver in
    Contains (messages s (history s (suc date)) stream) m × (is_untaken stream date actions m ≡ true)
    × (is_fresh (swept (s.opening.silent receiver) date actions) m ≡ true)

-- What expires behind a date wasn't swept away by it.
pub fresh_late : (quiet : Bool) (date : ℕ) (actions : List Action) (m : Message) → ((r : Action) → Contains actions r → r.start < suc date) → date < m.expiry → is_fresh (swept quiet date actions) m ≡ true
fresh_late true date [] m begun late = lt-ltb date m.expiry late
fresh_late false date [] m begun late = refl
fresh_late quiet date (r ∷ before) m begun late = elim (cases_Bool (is_silent date (r ∷ before))) [
  | inl silent ↦ ap (λ b. nat_lt (if b then date else r.start) m.expiry) silent ∙ lt-ltb date m.expiry late
  | inr loud ↦ ap (λ b. nat_lt (if b then date else r.start) m.expiry) loud ∙ lt-ltb r.start m.expiry (omega (arith, begun r (contains_front r before), late))
]

module _ (s : System) (streams : HasStreams s) (laws : AreClockLaws) where
  -- No two messages of a queue are the same.
  pub strictly_queue : (date stream : ℕ) → strictly (queue_of s date stream)
  strictly_queue zero stream = pairs_none (λ m n. comes_before m n ≡ true)
  strictly_queue (suc date) stream =
      strictly_filter (is_held (s.opening.silent (stream_of s stream).receiver) stream date (history s (suc date) (stream_of s stream).receiver)) (messages s (history s (suc date)) stream) (strictly_messages s streams laws (suc date) stream)

  module _ (date stream : ℕ) where
    abbrev quiet : Bool
    quiet = s.opening.silent (stream_of s stream).receiver

    abbrev actions : List Action
    actions = history s (suc date) (stream_of s stream).receiver

    -- What is held stays and has entered,
    from_queue : (m : Message) → Contains (queue_of s (suc date) stream) m → StaysThere s date stream m × (m.entry ≤ date)
    from_queue m c =
        let (sent, is) = filter_from (is_held quiet stream date actions) (messages s (history s (suc date)) stream) m c in
        let (entered, kept) = and_parts (nat_le m.entry date) (is_untaken stream date actions m && is_fresh (swept quiet date actions) m) is in
        let (untaken, fresh) = and_parts (is_untaken stream date actions m) (is_fresh (swept quiet date actions) m) kept in
        ((sent, untaken, fresh), leb-true m.entry date entered)

    -- and what stays and has entered is held.
    into_queue : (m : Message) → StaysThere s date stream m → m.entry ≤ date → Contains (queue_of s (suc date) stream) m
    into_queue m (sent, untaken, fresh) early =
        filter_in (is_held quiet stream date actions) (messages s (history s (suc date)) stream) m sent
        (and_from (nat_le m.entry date) (is_untaken stream date actions m && is_fresh (swept quiet date actions) m) (le-leb m.entry date early) (and_from (is_untaken stream date actions m) (is_fresh (swept quiet date actions) m) untaken fresh))

    -- The queue holds what stays there and has entered.
    pub contains_queue : (m : Message) → Contains (queue_of s (suc date) stream) m ↔ (StaysThere s date stream m × (m.entry ≤ date))
    contains_queue m = (from_queue m, λ h. into_queue m h.0 h.1)

    -- ---- what is new

    -- What an action saw was visible by its start.
    seen_early : (r : Action) → Contains actions r → (x : Message) → Contains (r.seen stream) x → x.visible ≤ r.start
    seen_early r there x c =
        let agent : ℕ = (stream_of s stream).receiver in
        let (before, was) = was_started s streams.lawful (suc date) agent r there in
        let h = history s was.next.start in
        let start : r.start ≡ was.next.start = ap (λ (q : Action). q.start) was.made in
        let seen : Contains (seen_at s h was.next.start stream) x = subst (λ (q : Action). Contains (q.seen stream) x) was.made c in
        let (sent, is) = filter_from (is_in_view stream was.next.start (h agent)) (messages s h stream) x seen in
        let visible = (in_view stream was.next.start (h agent) x is).visible in
        omega (arith, start, visible)

    -- No action that ended by a date took what isn't visible before it.
    pub untaken_late : (m : Message) → date ≤ m.visible → is_untaken stream date actions m ≡ true
    untaken_late m late = untaken_new stream date actions m (λ r there done x seen.
        let (point, end, is, early) = ended_by date r done in
        let regular = All-contains (IsRegular s (stream_of s stream).receiver) actions r (streams.lawful.actions (suc date) (stream_of s stream).receiver).each there in
        false_from_ne_true (is_same m x) (λ same. absurd (omega (arith, (same_entry m x same).0, late, early, regular.due, (regular.ends point end is).2, seen_early r there x seen))))

    -- So what isn't visible before a date stays.
    pub new_stays : (m : Message) → Contains (messages s (history s (suc date)) stream) m → date ≤ m.visible → StaysThere s date stream m
    new_stays m c late =
        let dates = message_dates s streams laws (history s (suc date)) stream m c in
        (c, untaken_late m late, fresh_late quiet date actions m (λ r there. start_below s streams.lawful (suc date) (stream_of s stream).receiver r there) (omega (arith, dates.1, late)))
