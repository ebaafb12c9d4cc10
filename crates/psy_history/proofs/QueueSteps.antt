-- What a stream holds after a date: what was left, with the messages that enter put in their places.
use Rattle.std.proofs.Common.{◌≡◌, ℕ, zero, suc, ◌+◌, ◌<◌, ◌≤◌, Bool, true, false, if◌then◌else◌, List, [], drop, add-one, ap, ◌∙◌, subst, inl, inr, arith}
use Rattle.std.specs.Prelude.{filter, nat_lt}
use Rattle.std.specs.List.{Contains}
use Rattle.std.proofs.Math.Seq.{drop-nil}
use Rattle.std.proofs.lemmas.Bool.{cases_order, cond_both}
use Rattle.psy_base.specs.declared.message.Message.{Message}
use Rattle.psy_lists.proofs.lemmas.Members.{contains_none}
use Rattle.psy_history.specs.Actions.{System, next_of, stream_of}
use Rattle.psy_history.specs.History.{history}
use Rattle.psy_history.specs.Queues.{entered, entering, given_up, queue_of, settled, sweeps}
use Rattle.psy_history.proofs.EnteringMessages.{contains_entering, differing_entering}
use Rattle.psy_history.proofs.HeldMessages.{StaysThere, contains_queue, new_stays, strictly_queue}
use Rattle.psy_history.proofs.MessageOrder.{same_messages, strictly, strictly_drop, strictly_filter}
use Rattle.psy_history.proofs.MessagePlaces.{contains_entered, strictly_entered}
use Rattle.psy_history.proofs.SentMessages.{AreClockLaws, HasStreams, apart, message_dates}
use Rattle.psy_history.proofs.SettledMessages.{settled_is}

module _ (s : System) (streams : HasStreams s) (laws : AreClockLaws) (stream : ℕ) where
  abbrev receiver : ℕ
  receiver = (stream_of s stream).receiver

  abbrev quiet : Bool
  quiet = s.opening.silent receiver

  -- ---- what is left

  abbrev left : ℕ → List Message
  left date = settled s date stream (queue_of s date stream)

  -- nothing is left of nothing
  none_left : (date given : ℕ) (sweep : Bool) (m : Message) → Contains (if sweep then filter (λ (x : Message). nat_lt date x.expiry) (drop given []) else []) m → ⊥
  none_left date given false m c = contains_none m c
  none_left date given true m c = contains_none m (subst (λ ms. Contains (filter (λ (x : Message). nat_lt date x.expiry) ms) m) (drop-nil given) c)

  -- What is left stays, and entered before the date,
  from_left : (date : ℕ) (m : Message) → Contains (left date) m → StaysThere s date stream m × (m.entry < date)
  from_left zero m c = absurd (none_left 0 (given_up 0 stream []) (sweeps quiet 0 [] (next_of s receiver [])) m c)
  from_left (suc d) m c = (settled_is s streams laws d stream m).0 c

  -- and what stays of that is left.
  into_left : (date : ℕ) (m : Message) → StaysThere s date stream m → m.entry < date → Contains (left date) m
  into_left zero m stays early = absurd (omega (arith, early))
  into_left (suc d) m stays early = (settled_is s streams laws d stream m).1 (stays, early)

  -- No two of it are the same.
  strictly_left : (date : ℕ) → strictly (left date)
  strictly_left date =
      let actions = history s date receiver in
      let queue = queue_of s date stream in
      let rest = drop (given_up date stream actions) queue in
      let strict = strictly_queue s streams laws date stream in
      cond_both (sweeps quiet date actions (next_of s receiver actions)) (filter (λ (m : Message). nat_lt date m.expiry) rest) queue strictly
      (λ sweep. strictly_filter (λ (m : Message). nat_lt date m.expiry) rest (strictly_drop (given_up date stream actions) queue strict))
      (λ still. strict)

  -- ---- with what enters

  module _ (date : ℕ) (later : s.opening.dates ≤ date) where
    abbrev held : List Message
    held = queue_of s (suc date) stream

    abbrev after : List Message
    after = entered (entering s date stream) (left date)

    into_after : (m : Message) → Contains held m → Contains after m
    into_after m c =
        let (stays, early) = (contains_queue s streams laws date stream m).0 c in
        (contains_entered (entering s date stream) (left date) m).1 (elim (cases_order m.entry date) [
          | inl at ↦ inl ((contains_entering s streams laws date stream later m).1 (stays.0, at))
          | inr other ↦ elim other [ inl before ↦ inr (into_left date m stays before) | inr behind ↦ absurd (omega (arith, early, behind)) ]
        ])

    from_after : (m : Message) → Contains after m → Contains held m
    from_after m c = elim ((contains_entered (entering s date stream) (left date) m).0 c) [
      | inl comes ↦ (
          let (sent, at) = (contains_entering s streams laws date stream later m).0 comes in
          let dates = message_dates s streams laws (history s (suc date)) stream m sent in
          (contains_queue s streams laws date stream m).1 (new_stays s streams laws date stream m sent (omega (arith, at, dates.0)), omega (arith, at)))
      | inr there ↦ (let (stays, early) = from_left date m there in (contains_queue s streams laws date stream m).1 (stays, omega (arith, early)))
    ]

    strictly_after : strictly after
    strictly_after =
        strictly_entered (entering s date stream) (left date) (strictly_left date) (differing_entering s streams laws date stream) (λ m n c d.
        let at = ((contains_entering s streams laws date stream later m).0 c).1 in
        let early = (from_left date n d).1 in
        apart m n (λ entry sender number. omega (arith, at, early, entry)))

    -- Behind a date a stream holds what was left, and what enters, in its place.
    pub next_is : queue_of s (date + 1) stream ≡ entered (entering s date stream) (settled s date stream (queue_of s date stream))
    next_is = ap (λ dates. queue_of s dates stream) (add-one date) ∙ same_messages held after (strictly_queue s streams laws (suc date) stream) strictly_after (λ m. (into_after m, from_after m))
