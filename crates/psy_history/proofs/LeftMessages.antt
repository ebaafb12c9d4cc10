-- The messages that a whole run leaves in its streams at a quiet date: each entered by then, and hasn't expired where the receiver has begun.
use Rattle.std.proofs.Common.{◌≡◌, ℕ, suc, ◌+◌, ◌*◌, ◌<◌, ◌≤◌, true, false, not, All, List, [], ◌∷◌, length, Some, refl, sym, ap, ◌∙◌, subst, inl, inr, arith}
use Rattle.std.specs.Prelude.{◌==◌, nat_lt, if◌then◌else◌}
use Rattle.std.specs.List.{Contains}
use Rattle.std.proofs.lemmas.Bool.{and_cases, cases_Bool, cond_both, eqb-true, lt-ltb, ltb-true, not-false}
use Rattle.std.proofs.lemmas.List.Elements.{All-cons, All-contains, All-get_or, All-head, All-nil, All-tail}
use Rattle.std.proofs.lemmas.Nat.{mul-le}
use Rattle.psy_base.specs.declared.limits.TheConstants.{AFTER, KEEP, QUEUE, UNTIL}
use Rattle.psy_base.specs.declared.message.Message.{Message}
use Rattle.psy_clock.specs.Dates.{IsClock}
use Rattle.psy_clock.specs.declared.clock.Clock.{Clock}
use Rattle.psy_clock.specs.declared.clock.TheConstants.{PERIOD}
use Rattle.psy_code.specs.declared.code.Code.{Code}
use Rattle.psy_code.specs.declared.look.Sent.{Sent}
use Rattle.psy_lists.proofs.lemmas.Members.{all_members, contains_front, get_or_holds}
use Rattle.psy_meaning.specs.Kept.{IsSentOf}
use Rattle.psy_meaning.specs.KnownWays.{Ways}
use Rattle.psy_meaning.specs.Units.{IsBareStream}
use Rattle.psy_history.specs.Actions.{Action, Next, System, clock_of, is_silent, next_of, stream_of}
use Rattle.psy_history.specs.History.{action_of, history}
use Rattle.psy_history.specs.Openings.{AreHeldBefore, HasBegun, IsHeldBefore}
use Rattle.psy_history.specs.Queues.{queue_of}
use Rattle.psy_history.specs.Resuming.{IsQuiet, is_busy, resumed_at}
use Rattle.psy_history.specs.Runs.{IsRun}
use Rattle.psy_history.specs.Visible.{is_fresh, message_of, messages, messages_by, messages_from, swept}
use Rattle.psy_history.specs.Ways.{IsSentBy}
use Rattle.psy_history.proofs.Growth.{grown}
use Rattle.psy_history.proofs.HeldMessages.{contains_queue, strictly_queue}
use Rattle.psy_history.proofs.HeldWindow.{AreNear}
use Rattle.psy_history.proofs.NextStarts.{next_late}
use Rattle.psy_history.proofs.Numbers.{agent_of}
use Rattle.psy_history.proofs.Seeing.{MessageFits}
use Rattle.psy_history.proofs.SentMessages.{AreClockLaws, HasStreams, IsBefore, IsOf, contains_messages, message_dates, sent_is}
use Rattle.psy_history.proofs.StartedActions.{start_below}
use Rattle.psy_history.proofs.Timings.{every_tick}

-- A list without elements is empty.
no_elements : {X : Type 0} (xs : List X) → ((x : X) → Contains xs x → ⊥) → xs ≡ []
no_elements [] none = refl
no_elements (x ∷ xs) none = absurd (none x (contains_front x xs))

-- A message of an action that ended there is to a stream that there is, and can be seen so soon.
record IsSoon (s : System) (stream end : ℕ) (m : Message) : Type 0 where
  known : stream < length s.unit.streams
  soon : m.visible ≤ end + (AFTER + 1) * PERIOD

module _ (s : System) (ways : Ways) (code : Code) (run : IsRun s ways code) (streams : HasStreams s) (laws : AreClockLaws) (near : AreNear)
    (sends : (dates agent : ℕ) → All (λ r. All (IsSentBy ways s.unit) r.deeds.sends) (history s dates agent))
    (fit : (dates stream : ℕ) → All MessageFits (messages s (history s dates) stream)) (sizes : List ℕ) (order : ℕ → List ℕ) (date : ℕ)
    (early : date ≤ UNTIL) (quiet : IsQuiet s date) (none : s.opening.dates ≡ 0) where
  abbrev t : System
  t = resumed_at s sizes order date

  clock_is : (clock : ℕ) → IsClock (clock_of s clock)
  clock_is clock = get_or_holds IsClock s.unit.clocks clock _ every_tick streams.clocks

  -- ---- who sent a message

  soon_from : (stream agent end number : ℕ) (sent : List Sent) → All (IsSentBy ways s.unit) sent → All (IsSoon s stream end) (messages_from s stream agent end number sent)
  soon_from stream agent end number [] all = All-nil (IsSoon s stream end)
  soon_from stream agent end number (sent ∷ more) all =
      let its : IsSentOf s.unit sent = (All-head (IsSentBy ways s.unit) sent more all).fits in
      let rest = soon_from stream agent end (number + 1) more (All-tail (IsSentBy ways s.unit) sent more all) in
      let m : Message = message_of s agent end number sent in
      let later : List Message = messages_from s stream agent end (number + 1) more in
      let clock : Clock = clock_of s sent.clock in
      let seen = near.from clock end sent.after (clock_is sent.clock) in
      let far = mul-le (sent.after + 1) clock.period (AFTER + 1) PERIOD (omega (arith, its.after)) (clock_is sent.clock).period in
      cond_both (sent.stream == stream) (m ∷ later) later (All (IsSoon s stream end))
      (λ to. All-cons (IsSoon s stream end) m later (record {
        known = subst (λ k. k < length s.unit.streams) (eqb-true sent.stream stream to) its.stream;
        soon = omega (arith, seen, far);
      }) rest)
      (λ other. rest)

  module _ (dates stream : ℕ) (m : Message) (of : IsOf s (history s dates) stream m) where
    soon_of : IsSoon s stream m.entry m
    soon_of =
        let (agent, r, less, there, its) = of in
        let is = sent_is s streams laws stream r m its in
        let all = All-contains (λ (r : Action). All (IsSentBy ways s.unit) r.deeds.sends) (history s dates agent) r (sends dates agent) there in
        let among : Contains (messages_from s stream r.agent m.entry 0 r.deeds.sends) m =
        subst (λ v. Contains (messages_by s stream r.agent r.deeds.sends v) m) is.done its in
        All-contains (IsSoon s stream m.entry) (messages_from s stream r.agent m.entry 0 r.deeds.sends) m (soon_from stream r.agent m.entry 0 r.deeds.sends all) among

    sender_of : m.sender < length s.unit.agents
    sender_of =
        let (agent, r, less, there, its) = of in
        let sender = (sent_is s streams laws stream r m its).sender in
        omega (arith, less, sender, agent_of s dates agent r there)

    -- it expires so soon
    expires_of : m.expiry ≤ m.visible + KEEP * PERIOD
    expires_of =
        let (agent, r, less, there, its) = of in
        let clock : Clock = clock_of s (stream_of s stream).clock in
        let expiry = (sent_is s streams laws stream r m its).expiry in
        let bare : IsBareStream s.unit (stream_of s stream) = All-get_or (IsBareStream s.unit) s.unit.streams stream _ soon_of.known run.bare.streams in
        let kept = near.after clock m.visible (stream_of s stream).keep (clock_is (stream_of s stream).clock) bare.keep.0 in
        let far = mul-le (stream_of s stream).keep clock.period KEEP PERIOD bare.keep.1 (clock_is (stream_of s stream).clock).period in
        omega (arith, expiry, kept, far)

  -- In a whole run each message of a stream is of an action.
  of_action : (dates stream : ℕ) (m : Message) → Contains (messages s (history s dates) stream) m → IsOf s (history s dates) stream m
  of_action dates stream m c = elim ((contains_messages s streams (history s dates) stream m).0 c) [
    | inl held ↦ absurd (let is = All-contains (IsBefore s.opening.dates) (s.opening.messages stream) m (streams.held stream) held in omega (arith, is.entered, none))
    | inr of ↦ of
  ]

  -- So a stream that there isn't has none.
  pub none_unknown : (dates stream : ℕ) → length s.unit.streams ≤ stream → messages s (history s dates) stream ≡ []
  none_unknown dates stream past = no_elements (messages s (history s dates) stream) (λ m c.
      let is = soon_of dates stream m (of_action dates stream m c) in
      omega (arith, is.known, past))

  -- ---- what is held

  module _ (stream : ℕ) where
    abbrev receiver : ℕ
    receiver = (stream_of s stream).receiver

    abbrev old : List Action
    old = history s date receiver

    -- Of a receiver that has begun, the streams are rid of what has expired by the date:
    -- one that starts there is,
    fresh_started : (r : Action) (before : List Action) (m : Message) → r.start ≡ date → is_fresh (swept (s.opening.silent receiver) date (r ∷ before)) m ≡ true → date < m.expiry
    fresh_started r before m at fresh = elim (cases_Bool (is_silent date (r ∷ before))) [
      | inl silent ↦ ltb-true date m.expiry (sym (ap (λ b. nat_lt (if b then date else r.start) m.expiry) silent) ∙ fresh)
      | inr loud ↦ (let late = ltb-true r.start m.expiry (sym (ap (λ b. nat_lt (if b then date else r.start) m.expiry) loud) ∙ fresh) in omega (arith, late, at))
    ]

    -- and one that is silent.
    fresh_silent : (r : Action) (before : List Action) (m : Message) → is_silent date (r ∷ before) ≡ true → is_fresh (swept (s.opening.silent receiver) date (r ∷ before)) m ≡ true → date < m.expiry
    fresh_silent r before m silent fresh = ltb-true date m.expiry (sym (ap (λ b. nat_lt (if b then date else r.start) m.expiry) silent) ∙ fresh)

    module _ (less : stream < length s.unit.streams) (begun : HasBegun t receiver) (m : Message) where
      known : receiver < length s.unit.agents
      known = (All-get_or (IsBareStream s.unit) s.unit.streams stream _ less run.bare.streams).receiver

      -- where none starts at the date
      fresh_still : (its : List Action) → old ≡ its → history s (suc date) receiver ≡ its → ((n : Next) → next_of s receiver old ≡ Some n → n.start ≡ date → ⊥)
          → is_fresh (swept (s.opening.silent receiver) date its) m ≡ true → date < m.expiry
      fresh_still [] e same other fresh = elim (cases_Bool (s.opening.silent receiver)) [
        | inl silent ↦ ltb-true date m.expiry (sym (ap (λ b. is_fresh (swept b date []) m) silent) ∙ fresh)
        | inr loud ↦ (
            let (n, starts) = run.opened.begins receiver known loud in
            let next : next_of s receiver old ≡ Some n = ap (next_of s receiver) e ∙ starts in
            let late = next_late s streams.lawful date receiver n next in
            absurd (other n next (omega (arith, late, begun n next))))
      ]
      fresh_still (r ∷ before) e same other fresh =
          let started : r.start < date = start_below s streams.lawful date receiver r (subst (λ xs. Contains xs r) (sym e) (contains_front r before)) in
          let still : is_busy date (r ∷ before) ≡ false = sym (ap (is_busy date) same) ∙ quiet receiver in
          elim (and_cases (nat_lt r.start date) (not (is_silent date (r ∷ before))) still) [
            | inl late ↦ (let no : true ≡ false = sym (lt-ltb r.start date started) ∙ late in absurd cc)
            | inr silent ↦ fresh_silent r before m (not-false (is_silent date (r ∷ before)) silent) fresh
          ]

      fresh_now : is_fresh (swept (s.opening.silent receiver) date (history s (suc date) receiver)) m ≡ true → date < m.expiry
      fresh_now fresh = elim (grown s date receiver) [
        | inl (same, other) ↦ fresh_still old refl same other (subst (λ its. is_fresh (swept (s.opening.silent receiver) date its) m ≡ true) same fresh)
        | inr (n, next, at, more) ↦
            fresh_started (action_of s (history s date) receiver n) old m at (subst (λ its. is_fresh (swept (s.opening.silent receiver) date its) m ≡ true) more fresh)
      ]

    held_is : (m : Message) → Contains (queue_of s (suc date) stream) m → IsHeldBefore t stream m
    held_is m c =
        let ((sent, untaken, fresh), entered) = (contains_queue s streams laws date stream m).0 c in
        let of = of_action (suc date) stream m sent in
        let dates = message_dates s streams laws (history s (suc date)) stream m sent in
        let soon = soon_of (suc date) stream m of in
        record {
          entered = omega (arith, entered);
          visible = dates.0;
          late = dates.1;
          fresh = λ begun. omega (arith, fresh_now soon.known begun m fresh);
          sender = sender_of (suc date) stream m of;
          near = omega (arith, expires_of (suc date) stream m of, soon.soon, entered, early);
          value = All-contains MessageFits (messages s (history s (suc date)) stream) m (fit (suc date) stream) sent;
        }

    -- So the messages that a stream holds are such as it may begin with, where they are no more than a queue may hold.
    pub left_messages : length (queue_of s (suc date) stream) ≤ QUEUE → AreHeldBefore t stream (t.opening.messages stream)
    left_messages few = record {
      each = all_members (IsHeldBefore t stream) (queue_of s (suc date) stream) held_is;
      rise = strictly_queue s streams laws (suc date) stream;
      few = few;
    }
