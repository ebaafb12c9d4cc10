-- The messages of a stream: who sent each and when it can be seen, that no two are the same, and which dates know of them.
use Rattle.std.proofs.Common.{◌≡◌, ◌⊎◌, ◌↔◌, ℕ, zero, suc, ◌+◌, ◌-◌, ◌<◌, ◌≤◌, true, false, Some, List, [], ◌∷◌, length, refl, sym, ap, ◌∙◌, subst, inl, inr, arith}
use Rattle.std.specs.Prelude.{◌==◌}
use Rattle.std.specs.List.{All, AllPairs, Contains, flat_map, range_with_len}
use Rattle.std.proofs.lemmas.Bool.{cases_Bool, cond_both, eqb-true}
use Rattle.std.proofs.lemmas.List.Elements.{All-cons, All-contains, All-nil, All-weaker, Contains-append_cases, Contains-append_left, Contains-append_right, Contains-get_or}
use Rattle.std.proofs.lemmas.List.FromFn.{get_or-range_with_len, length-range_with_len}
use Rattle.std.proofs.lemmas.List.Kept.{AllPairs-cons}
use Rattle.std.proofs.Math.Nat.{mul-le-mul_right}
use Rattle.psy_base.specs.declared.message.Message.{Message}
use Rattle.psy_lists.proofs.lemmas.Ordered.{pairs_append}
use Rattle.psy_lists.proofs.lemmas.Members.{contains_none, contains_front, contains_behind, front_or_behind, flat_map_in, flat_map_from, get_or_holds}
use Rattle.psy_clock.specs.declared.clock.Clock.{Clock}
use Rattle.psy_clock.specs.Dates.{IsClock, after_date, count, from_date}
use Rattle.psy_code.specs.declared.look.Sent.{Sent}
use Rattle.psy_queue.specs.Order.{comes_before}
use Rattle.psy_history.specs.Actions.{Action, History, Next, System, Verdict, Done, Trapped, Overran, clock_of, stream_of}
use Rattle.psy_history.specs.History.{history}
use Rattle.psy_history.specs.Visible.{is_same, message_of, messages, messages_by, messages_from, sent_to}
use Rattle.psy_history.specs.Regular.{IsLawful, IsRegular}
use Rattle.psy_history.proofs.ClockDates.{count_rises}
use Rattle.psy_history.proofs.Growth.{grown, stays_started}
use Rattle.psy_history.proofs.LastActions.{EndsBefore, actions_in_turn}
use Rattle.psy_history.proofs.MessageOrder.{before_differs, differing, pairs_head, pairs_none, pairs_tail, same_entry, strictly}
use Rattle.psy_history.proofs.MessagePlaces.{contains_ordered, strictly_ordered}
use Rattle.psy_history.proofs.OpenedStarts.{start_behind}
use Rattle.psy_history.proofs.Reached.{in_range, of_range}
use Rattle.psy_history.proofs.Timings.{every_tick}

-- ---- what is asked of a system

-- A message that entered at one of the first dates, can be seen no earlier, and expires behind that
pub record IsBefore (dates : ℕ) (m : Message) : Type 0 where
  pub entered : m.entry < dates
  pub visible : m.entry ≤ m.visible
  pub late : m.visible < m.expiry

-- Its clocks are lawful, each message is kept for one date at least; it begins with messages that entered before, in order, no two of them
-- the same; and an agent that starts an action is not silent, and does so at the last date that was done, or behind it.
pub record HasStreams (s : System) : Type 0 where
  pub lawful : IsLawful s
  pub clocks : All IsClock s.unit.clocks
  pub keeps : (stream : ℕ) → 1 ≤ (stream_of s stream).keep
  pub held : (stream : ℕ) → All (IsBefore s.opening.dates) (s.opening.messages stream)
  pub rise : (stream : ℕ) → strictly (s.opening.messages stream)
  pub ahead : (agent : ℕ) (n : Next) → s.opening.starts agent ≡ Some n → s.opening.dates ≤ suc n.start
  pub loud : (agent : ℕ) (n : Next) → s.opening.starts agent ≡ Some n → s.opening.silent agent ≡ false

-- What is known of dates behind a time, and from it on
pub record AreClockLaws : Type 0 where
  pub late : (c : Clock) (t k : ℕ) → IsClock c → 1 ≤ k → t < after_date c t k
  pub from_late : (c : Clock) (t k : ℕ) → IsClock c → t ≤ from_date c t k

-- The date so many behind a later time is no earlier.
after_rises : (c : Clock) (t u k : ℕ) → t ≤ u → after_date c t k ≤ after_date c u k
after_rises c t u k l =
    let more : count c t + (k - 1) ≤ count c u + (k - 1) = omega (arith, count_rises c t u l) in
    omega (arith, mul-le-mul_right c.period more)

-- ---- pairs of a list

-- Where elements stand in pairs, so does what is made of them.
pub pairs_flat_map : {X Y : Type 0} (S : X → X → Type 0) (R : Y → Y → Type 0) (f : X → List Y) → ((x z : X) → S x z → (a b : Y) → Contains (f x) a → Contains (f z) b → R a b)
    → (xs : List X) → AllPairs S xs → ((x : X) → Contains xs x → AllPairs R (f x)) → AllPairs R (flat_map f xs)
pairs_flat_map S R f across [] pairs each = pairs_none R
pairs_flat_map S R f across (x ∷ xs) pairs each =
    pairs_append R (f x) (flat_map f xs) (each x (contains_front x xs))
    (pairs_flat_map S R f across xs (pairs_tail S x xs pairs) (λ z c. each z (contains_behind x xs z c)))
    (λ a b c d. let (z, there, within) = flat_map_from f xs b d in across x z (All-contains (S x) xs z (pairs_head S x xs pairs) there) a b c within)

-- Messages that stand in order strictly differ.
strict_differ : (ms : List Message) → strictly ms → differing ms
strict_differ [] strict = pairs_none (λ m n. is_same m n ≡ false)
strict_differ (m ∷ ms) strict =
    AllPairs-cons (λ x y. is_same x y ≡ false) m ms
    (All-weaker (λ n. comes_before m n ≡ true) (λ n. is_same m n ≡ false) (λ n before. before_differs m n before) ms (pairs_head (λ x y. comes_before x y ≡ true) m ms strict))
    (strict_differ ms (pairs_tail (λ x y. comes_before x y ≡ true) m ms strict))

-- Numbers in a row rise.
pub range_rises : (a n : ℕ) → AllPairs (λ i j. i < j) (range_with_len a n)
range_rises a n i j d less within =
    let inside : j < n = omega (arith, within, length-range_with_len a n) in
    omega (arith, less, get_or-range_with_len a n i d (omega (arith, less, inside)), get_or-range_with_len a n j d inside)

-- ---- the messages of an action

-- A message to a stream among the sends of an action that ended there, of a number from this one on
record IsFrom (s : System) (stream agent end number : ℕ) (m : Message) : Type 0 where
  entry : m.entry ≡ end
  sender : m.sender ≡ agent
  numbered : number ≤ m.number
  visible : end ≤ m.visible
  expiry : m.expiry ≡ after_date (clock_of s (stream_of s stream).clock) m.visible (stream_of s stream).keep

-- A message that an action sent to a stream: it entered where that action ended.
pub record IsSent (s : System) (stream : ℕ) (r : Action) (m : Message) : Type 0 where
  pub point : ℕ
  pub done : r.verdict ≡ Done point m.entry
  pub sender : m.sender ≡ r.agent
  pub visible : m.entry ≤ m.visible
  pub expiry : m.expiry ≡ after_date (clock_of s (stream_of s stream).clock) m.visible (stream_of s stream).keep
  pub late : m.visible < m.expiry

-- Messages that entered apart, or that have other senders or numbers, are not the same.
pub apart : (m n : Message) → (m.entry ≡ n.entry → m.sender ≡ n.sender → m.number ≡ n.number → ⊥) → is_same m n ≡ false
apart m n not = elim (cases_Bool (is_same m n)) [
  | inl same ↦ (let (visible, entry, sender, number) = same_entry m n same in absurd (not entry sender number))
  | inr other ↦ other
]

-- The sender of a message of a stream, by a history
abbrev pub IsOf : System → History → ℕ → Message → Type 0
IsOf s h stream m = (agent : ℕ) × (r : Action) × (agent < length s.unit.agents) × Contains (h agent) r × Contains (messages_by s stream r.agent r.deeds.sends r.verdict) m

module _ (s : System) (streams : HasStreams s) where
  -- ---- who sent a message

  abbrev of_action : ℕ → Action → List Message
  of_action stream r = messages_by s stream r.agent r.deeds.sends r.verdict

  abbrev of_agent : History → ℕ → ℕ → List Message
  of_agent h stream agent = flat_map (of_action stream) (h agent)

  abbrev of_agents : History → ℕ → List Message
  of_agents h stream = flat_map (of_agent h stream) (range_with_len 0 (length s.unit.agents))

  -- From what actions sent to its sender,
  pub of_actions : (h : History) (stream : ℕ) (m : Message) → Contains (of_agents h stream) m → IsOf s h stream m
  of_actions h stream m c =
      let (agent, among, of) = flat_map_from (of_agent h stream) (range_with_len 0 (length s.unit.agents)) m c in
      let (r, there, its) = flat_map_from (of_action stream) (h agent) m of in
      (agent, r, of_range agent (length s.unit.agents) among, there, its)

  contains_sent : (h : History) (stream : ℕ) (m : Message) → Contains (sent_to s h stream) m → Contains (s.opening.messages stream) m ⊎ IsOf s h stream m
  contains_sent h stream m c = elim (Contains-append_cases (s.opening.messages stream) (of_agents h stream) m c) [ inl before ↦ inl before | inr sent ↦ inr (of_actions h stream m sent) ]

  -- and back
  sent_contains : (h : History) (stream : ℕ) (m : Message) → Contains (s.opening.messages stream) m ⊎ IsOf s h stream m → Contains (sent_to s h stream) m
  sent_contains h stream m (inl before) = Contains-append_left (s.opening.messages stream) (of_agents h stream) m before
  sent_contains h stream m (inr (agent, r, less, there, its)) =
      Contains-append_right (s.opening.messages stream) (of_agents h stream) m
      (flat_map_in (of_agent h stream) (range_with_len 0 (length s.unit.agents)) agent m (in_range agent (length s.unit.agents) less) (flat_map_in (of_action stream) (h agent) r m there its))

  -- A message of a stream is one that it held before, or one of an action of the history.
  pub contains_messages : (h : History) (stream : ℕ) (m : Message) → Contains (messages s h stream) m ↔ (Contains (s.opening.messages stream) m ⊎ IsOf s h stream m)
  contains_messages h stream m =
      let ordered = contains_ordered (sent_to s h stream) m in
      (λ c. contains_sent h stream m (ordered.0 c), λ is. ordered.1 (sent_contains h stream m is))

  -- ---- what dates know

  -- one date after the other
  known_by : (more others agent : ℕ) (r : Action) → r.start < others → Contains (history s (more + others) agent) r → Contains (history s others agent) r
  known_by zero others agent r early c = (let same : zero + others ≡ others = omega arith in subst (λ n. Contains (history s n agent) r) same c)
  known_by (suc more) others agent r early c =
      let next : suc more + others ≡ suc (more + others) = omega arith in
      let there : Contains (history s (suc (more + others)) agent) r = subst (λ n. Contains (history s n agent) r) next c in
      elim (grown s (more + others) agent) [
        | inl (same, other) ↦ known_by more others agent r early (subst (λ xs. Contains xs r) same there)
        | inr (n, is_next, at, is) ↦ elim (front_or_behind _ (history s (more + others) agent) r (subst (λ xs. Contains xs r) is there)) [
          | inl e ↦ (let start : n.start ≡ r.start = ap (λ (x : Action). x.start) e in absurd (omega (arith, start, at, early)))
          | inr behind ↦ known_by more others agent r early behind
        ]
      ]

  -- An action that starts before a date is in the history of that many dates.
  pub known : (dates others agent : ℕ) (r : Action) → Contains (history s dates agent) r → r.start < others → Contains (history s others agent) r
  known dates others agent r c early = known_by dates others agent r early (stays_started s dates (dates + others) agent r (omega arith) c)

  -- A message that was sent stays so.
  pub sent_stays : (dates later stream : ℕ) (m : Message) → dates ≤ later → Contains (messages s (history s dates) stream) m → Contains (messages s (history s later) stream) m
  sent_stays dates later stream m l c = (contains_messages (history s later) stream m).1 (elim ((contains_messages (history s dates) stream m).0 c) [
    | inl before ↦ inl before
    | inr (agent, r, less, there, its) ↦ inr (agent, r, less, stays_started s dates later agent r l there, its)
  ])

  -- what a stream held before
  before : (stream : ℕ) (m : Message) → Contains (s.opening.messages stream) m → IsBefore s.opening.dates m
  before stream m c = All-contains (IsBefore s.opening.dates) (s.opening.messages stream) m (streams.held stream) c

  module _ (laws : AreClockLaws) where
    -- each clock is lawful
    clock_is : (clock : ℕ) → IsClock (clock_of s clock)
    clock_is clock = get_or_holds IsClock s.unit.clocks clock _ every_tick streams.clocks

    -- ---- what a message is

    -- the messages among an action's sends
    all_from : (stream agent end number : ℕ) (sends : List Sent) → All (IsFrom s stream agent end number) (messages_from s stream agent end number sends)
    all_from stream agent end number [] = All-nil (IsFrom s stream agent end number)
    all_from stream agent end number (sent ∷ sends) =
        let m = message_of s agent end number sent in
        let P : Message → Type 0 = IsFrom s stream agent end number in
        let later = messages_from s stream agent end (number + 1) sends in
        let rest : All P later =
        All-weaker (IsFrom s stream agent end (number + 1)) P (λ x is. record { entry = is.entry; sender = is.sender; numbered = omega (arith, is.numbered); visible = is.visible; expiry = is.expiry })
        later (all_from stream agent end (number + 1) sends) in
        cond_both (sent.stream == stream) (m ∷ later) later (All P)
        (λ t. All-cons P m later (record {
          entry = refl;
          sender = refl;
          numbered = omega arith;
          visible = laws.from_late (clock_of s sent.clock) end sent.after (clock_is sent.clock);
          expiry = ap (λ k. after_date (clock_of s (stream_of s k).clock) m.visible (stream_of s k).keep) (eqb-true sent.stream stream t);
        }) rest)
        (λ t. rest)

    -- only an action that reached a point has any
    sent_by : (stream agent : ℕ) (sends : List Sent) (verdict : Verdict) (m : Message) → Contains (messages_by s stream agent sends verdict) m → (point : ℕ) × (end : ℕ) × (verdict ≡ Done point end) × IsFrom s stream agent end 0 m
    sent_by stream agent sends (Done point end) m c = (point, end, refl, All-contains (IsFrom s stream agent end 0) (messages_from s stream agent end 0 sends) m (all_from stream agent end 0 sends) c)
    sent_by stream agent sends (Trapped kind) m c = absurd (contains_none m c)
    sent_by stream agent sends Overran m c = absurd (contains_none m c)

    pub sent_is : (stream : ℕ) (r : Action) (m : Message) → Contains (messages_by s stream r.agent r.deeds.sends r.verdict) m → IsSent s stream r m
    sent_is stream r m c =
        let (point, end, done, is) = sent_by stream r.agent r.deeds.sends r.verdict m c in
        let keep = laws.late (clock_of s (stream_of s stream).clock) m.visible (stream_of s stream).keep (clock_is (stream_of s stream).clock) (streams.keeps stream) in
        record {
          point = point;
          done = done ∙ ap (Done point) (sym is.entry);
          sender = is.sender;
          visible = omega (arith, is.entry, is.visible);
          expiry = is.expiry;
          late = omega (arith, keep, is.expiry);
        }

    -- A message enters, can be seen no earlier, and expires behind that.
    pub message_dates : (h : History) (stream : ℕ) (m : Message) → Contains (messages s h stream) m → (m.entry ≤ m.visible) × (m.visible < m.expiry)
    message_dates h stream m c = elim ((contains_messages h stream m).0 c) [
      | inl held ↦ (let is = before stream m held in (is.visible, is.late))
      | inr (agent, r, less, there, its) ↦ (let is = sent_is stream r m its in (is.visible, is.late))
    ]

    -- where none was held before, its expiry comes of its visibility
    expires_at : (h : History) (stream : ℕ) (m : Message) → s.opening.messages stream ≡ [] → Contains (messages s h stream) m → m.expiry ≡ after_date (clock_of s (stream_of s stream).clock) m.visible (stream_of s stream).keep
    expires_at h stream m none c = elim ((contains_messages h stream m).0 c) [
      | inl held ↦ absurd (contains_none m (subst (λ ms. Contains ms m) none held))
      | inr (agent, r, less, there, its) ↦ (sent_is stream r m its).expiry
    ]

    -- Then one that can be seen later expires no earlier.
    pub expiry_rises : (h k : History) (stream : ℕ) (m n : Message) → s.opening.messages stream ≡ [] → Contains (messages s h stream) m → Contains (messages s k stream) n → m.visible ≤ n.visible → m.expiry ≤ n.expiry
    expiry_rises h k stream m n none c d l =
        let clock = clock_of s (stream_of s stream).clock in
        let keep : ℕ = (stream_of s stream).keep in
        let rises = after_rises clock m.visible n.visible keep l in
        omega (arith, rises, expires_at h stream m none c, expires_at k stream n none d)

    -- A message of an action entered at the last date that was done before, or behind it: later than those that were held.
    pub entered_behind : (dates stream : ℕ) (m : Message) → IsOf s (history s dates) stream m → s.opening.dates ≤ m.entry
    entered_behind dates stream m (agent, r, less, there, its) =
        let is = sent_is stream r m its in
        let regular = All-contains (IsRegular s agent) (history s dates agent) r (streams.lawful.actions dates agent).each there in
        omega (arith, start_behind s streams.ahead dates agent streams.lawful r there, regular.due, (regular.ends is.point m.entry is.done).2)

    -- A message that entered by a date is known to that many dates.
    pub sent_known : (dates others stream : ℕ) (m : Message) → m.entry ≤ others → Contains (messages s (history s dates) stream) m → Contains (messages s (history s others) stream) m
    sent_known dates others stream m l c = (contains_messages (history s others) stream m).1 (elim ((contains_messages (history s dates) stream m).0 c) [
      | inl held ↦ inl held
      | inr (agent, r, less, there, its) ↦ (
          let is = sent_is stream r m its in
          let regular = All-contains (IsRegular s agent) (history s dates agent) r (streams.lawful.actions dates agent).each there in
          let early : r.start < others = omega (arith, regular.due, (regular.ends is.point m.entry is.done).2, l) in
          inr (agent, r, less, known dates others agent r there early, its))
    ])

    -- ---- no two are the same

    -- those of one action have other numbers
    numbered_apart : (stream agent end number : ℕ) (sends : List Sent) → differing (messages_from s stream agent end number sends)
    numbered_apart stream agent end number [] = pairs_none (λ m n. is_same m n ≡ false)
    numbered_apart stream agent end number (sent ∷ sends) =
        let m = message_of s agent end number sent in
        let later = messages_from s stream agent end (number + 1) sends in
        let rest : differing later = numbered_apart stream agent end (number + 1) sends in
        cond_both (sent.stream == stream) (m ∷ later) later differing
        (λ t. AllPairs-cons (λ x y. is_same x y ≡ false) m later
        (All-weaker (IsFrom s stream agent end (number + 1)) (λ n. is_same m n ≡ false) (λ n is. apart m n (λ entry sender same. omega (arith, same, is.numbered))) later (all_from stream agent end (number + 1) sends))
        rest)
        (λ t. rest)

    -- The messages of one action differ.
    pub by_apart : (stream agent : ℕ) (sends : List Sent) (verdict : Verdict) → differing (messages_by s stream agent sends verdict)
    by_apart stream agent sends (Done point end) = numbered_apart stream agent end 0 sends
    by_apart stream agent sends (Trapped kind) = pairs_none (λ m n. is_same m n ≡ false)
    by_apart stream agent sends Overran = pairs_none (λ m n. is_same m n ≡ false)

    module _ (dates stream : ℕ) where
      abbrev Apart : Message → Message → Type 0
      Apart m n = is_same m n ≡ false

      regular_in : (agent : ℕ) (r : Action) → Contains (history s dates agent) r → IsRegular s agent r
      regular_in agent r c = All-contains (IsRegular s agent) (history s dates agent) r (streams.lawful.actions dates agent).each c

      -- an action that ended by another's start sent what entered before that one's messages
      turns_apart : (agent : ℕ) (r x : Action) → Contains (history s dates agent) r → EndsBefore r x → (m n : Message) → Contains (of_action stream r) m → Contains (of_action stream x) n → Apart m n
      turns_apart agent r x there (point, end, ended, early) m n c d =
          let its = sent_is stream r m c in
          let other = sent_is stream x n d in
          let regular = regular_in agent r there in
          let same : Done point end ≡ Done other.point n.entry = sym ended ∙ other.done in
          let at : end ≡ n.entry = cc in
          apart m n (λ entry sender number. omega (arith, entry, at, early, regular.due, (regular.ends its.point m.entry its.done).2))

      -- so the messages of one agent differ
      agent_apart : (agent : ℕ) → differing (of_agent (history s dates) stream agent)
      agent_apart agent =
          pairs_flat_map (λ r x. Contains (history s dates agent) r × EndsBefore r x) Apart (of_action stream) (λ r x pair. turns_apart agent r x pair.0 pair.1) (history s dates agent)
          (λ i j d less within. (Contains-get_or (history s dates agent) i d (omega (arith, less, within)), actions_in_turn s streams.lawful dates agent i j d less within))
          (λ r c. by_apart stream r.agent r.deeds.sends r.verdict)

      -- and those of two agents
      sender_is : (agent : ℕ) (m : Message) → Contains (of_agent (history s dates) stream agent) m → m.sender ≡ agent
      sender_is agent m c =
          let (r, there, its) = flat_map_from (of_action stream) (history s dates agent) m c in
          (sent_is stream r m its).sender ∙ (regular_in agent r there).agent_is

      agents_apart : (agent other : ℕ) → agent < other → (m n : Message) → Contains (of_agent (history s dates) stream agent) m → Contains (of_agent (history s dates) stream other) n → Apart m n
      agents_apart agent other less m n c d = (let first = sender_is agent m c in let second = sender_is other n d in apart m n (λ entry sender number. omega (arith, sender, first, second, less)))

      -- and from those that were held before
      sent_apart : differing (sent_to s (history s dates) stream)
      sent_apart =
          pairs_append Apart (s.opening.messages stream) (of_agents (history s dates) stream) (strict_differ (s.opening.messages stream) (streams.rise stream))
          (pairs_flat_map (λ i j. i < j) Apart (of_agent (history s dates) stream) agents_apart (range_with_len 0 (length s.unit.agents)) (range_rises 0 (length s.unit.agents)) (λ agent c. agent_apart agent))
          (λ m n c d. apart m n (λ entry sender number. omega (arith, entry, (before stream m c).entered, entered_behind dates stream n (of_actions (history s dates) stream n d))))

      -- The messages of a stream stand in order, no two of them the same.
      pub strictly_messages : strictly (messages s (history s dates) stream)
      strictly_messages = strictly_ordered (sent_to s (history s dates) stream) sent_apart
