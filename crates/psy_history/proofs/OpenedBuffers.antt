-- What a history begins with: no action, the values published before in its rings, and the messages held before in its queues.
use Rattle.std.proofs.Common.{◌≡◌, ℕ, zero, suc, ◌-◌, ◌<◌, ◌≤◌, Bool, true, false, List, [], ◌∷◌, length, get_or, Some, refl, sym, ap, ◌∙◌, subst, inl, inr, arith}
use Rattle.std.specs.Prelude.{ℤ, nat_le, nat_lt, slice_get}
use Rattle.std.specs.List.{Contains}
use Rattle.std.proofs.lemmas.Bool.{cases_Bool, cases_lt, cond-false, cond-true, le-leb, le-ltb, lt-ltb}
use Rattle.std.proofs.lemmas.List.{get_or_past}
use Rattle.std.proofs.lemmas.List.Elements.{All-contains, All-get_or}
use Rattle.std.proofs.lemmas.List.FromFn.{fill_by_all}
use Rattle.std.proofs.lemmas.Option.{same_Some, slice_get-get_or}
use Rattle.psy_base.specs.declared.message.Message.{Message}
use Rattle.psy_lists.proofs.lemmas.Members.{contains_front}
use Rattle.psy_clock.specs.declared.clock.Clock.{Clock}
use Rattle.psy_clock.specs.Dates.{IsClock, count, date}
use Rattle.psy_code.specs.declared.code.Code.{Code}
use Rattle.psy_history.specs.Actions.{Action, Next, System, next_of, publishing, stream_of, variable_of}
use Rattle.psy_history.specs.History.{history}
use Rattle.psy_history.specs.Openings.{AreInRing, HasBegun, IsHeldBefore}
use Rattle.psy_history.specs.Queues.{queue_of}
use Rattle.psy_history.specs.Regular.{IsRegular}
use Rattle.psy_history.specs.Rings.{ring_of}
use Rattle.psy_history.specs.Runs.{IsRun}
use Rattle.psy_history.specs.Visible.{is_fresh, is_untaken, past, published_behind, swept}
use Rattle.psy_meaning.specs.KnownWays.{Ways}
use Rattle.psy_meaning.specs.RingSizes.{IsRingSize}
use Rattle.psy_meaning.specs.Units.{IsBareStream}
use Rattle.psy_history.proofs.ClockDates.{AreCounted, count_of_date}
use Rattle.psy_history.proofs.Growth.{grown}
use Rattle.psy_history.proofs.HeldMessages.{contains_queue, fresh_late, strictly_queue}
use Rattle.psy_history.proofs.LastActions.{ended_by}
use Rattle.psy_history.proofs.MessageOrder.{same_messages}
use Rattle.psy_history.proofs.OpenedStarts.{start_behind}
use Rattle.psy_history.proofs.SentMessages.{AreClockLaws, HasStreams, IsBefore, contains_messages, entered_behind}
use Rattle.psy_history.proofs.StartedActions.{start_below}
use Rattle.psy_history.proofs.TakenMessages.{untaken_new}

-- ---- actions

-- None starts before the first one does.
pub none_early : (s : System) (dates agent : ℕ) → ((n : Next) → s.opening.starts agent ≡ Some n → dates ≤ n.start) → history s dates agent ≡ []
none_early s zero agent late = refl
none_early s (suc date) agent late =
    let before : history s date agent ≡ [] = none_early s date agent (λ n is. omega (arith, late n is)) in
    elim (grown s date agent) [
      | inl (same, other) ↦ same ∙ before
      | inr (n, next, at, more) ↦ absurd (omega (arith, at, late n (subst (λ actions. next_of s agent actions ≡ Some n) before next)))
    ]

-- ---- rings

-- As many back as its number in the list
at_back : (values : List ℤ) (init : ℤ) (back : ℕ) → ((value : ℤ) → slice_get values back ≡ Some value → value ≡ init) → get_or values back init ≡ init
at_back values init back first = elim (cases_lt back (length values)) [
  | inl inside ↦ first (get_or values back init) (slice_get-get_or values back init inside)
  | inr past ↦ get_or_past values back init past
]

module _ (s : System) (ways : Ways) (counted : AreCounted) (last variable : ℕ) (behind : s.opening.dates ≡ suc last) (is : IsClock (publishing s variable)) (are : AreInRing s ways last variable (s.opening.published variable)) where
  abbrev clock : Clock
  clock = publishing s variable

  abbrev values : List ℤ
  values = s.opening.published variable

  abbrev init : ℤ
  init = (variable_of s variable).init

  -- the value so many back is what is seen at that date
  back_is : (back : ℕ) → get_or values back init ≡ past s (history s (suc last)) variable last back
  back_is back = elim (cases_lt back (count clock last)) [
    | inl within ↦ (
        let number : ℕ = count clock last - 1 - back in
        let at : ℕ = date clock number in
        let early : at ≤ last = (counted.upto clock last number is).1 (omega (arith, within)) in
        let place : count clock last - count clock at ≡ back = omega (arith, within, count_of_date counted clock is number) in
        ap (λ k. get_or values k init) (sym place)
        ∙ sym (ap (λ dates. published_behind dates s (history s (suc last)) variable at) behind ∙ cond-true (nat_le at last) _ _ (le-leb at last early))
        ∙ sym (cond-true (nat_lt back (count clock last)) _ _ (lt-ltb back (count clock last) within)))
    | inr beyond ↦
        at_back values init back (λ value there. are.first back value there beyond)
        ∙ sym (cond-false (nat_lt back (count clock last)) _ _ (le-ltb back (count clock last) beyond))
  ]

  -- So a ring of that size holds the opening's values.
  pub ring_begins : (size : ℕ) → IsRingSize s.unit ways s.nexts variable size → ring_of s (suc last) variable size ≡ values
  ring_begins size ring = sym (fill_by_all (past s (history s (suc last)) variable last) values size init (are.size size ring) (λ k less. back_is k))

-- ---- queues

module _ (s : System) (ways : Ways) (code : Code) (run : IsRun s ways code) (streams : HasStreams s) (laws : AreClockLaws) (stream : ℕ) (less : stream < length s.unit.streams) where
  abbrev receiver : ℕ
  receiver = (stream_of s stream).receiver

  abbrev quiet : Bool
  quiet = s.opening.silent receiver

  known : receiver < length s.unit.agents
  known = (All-get_or (IsBareStream s.unit) s.unit.streams stream _ less run.bare.streams).receiver

  module _ (last : ℕ) (behind : s.opening.dates ≡ suc last) where
    abbrev actions : List Action
    actions = history s (suc last) receiver

    -- what stayed there by that date entered before
    from_first : (m : Message) → Contains (queue_of s (suc last) stream) m → Contains (s.opening.messages stream) m
    from_first m c =
        let ((sent, untaken, fresh), early) = (contains_queue s streams laws last stream m).0 c in
        elim ((contains_messages s streams (history s (suc last)) stream m).0 sent) [
          | inl before ↦ before
          | inr of ↦ absurd (omega (arith, early, behind, entered_behind s streams laws (suc last) stream m of))
        ]

    -- no action has ended by then
    untaken_first : (m : Message) → is_untaken stream last actions m ≡ true
    untaken_first m = untaken_new stream last actions m (λ r there done x seen.
        let (point, end, is, early) = ended_by last r done in
        let regular = All-contains (IsRegular s receiver) actions r (streams.lawful.actions (suc last) receiver).each there in
        absurd (omega (arith, early, behind, start_behind s streams.ahead (suc last) receiver streams.lawful r there, regular.due, (regular.ends point end is).2)))

    -- and nothing was swept away
    fresh_first : (m : Message) → IsHeldBefore s stream m → is_fresh (swept quiet last actions) m ≡ true
    fresh_first m is = elim (cases_Bool quiet) [
      | inl silent ↦ begun (λ n starts. let loud = sym silent ∙ (run.opened.known receiver n starts).1 in absurd cc)
      | inr loud ↦ (
          let (n, starts) = run.opened.begins receiver known loud in
          elim (run.opened.places receiver n starts) [
            | inl first ↦ begun (λ m also. let same : n ≡ m = same_Some n m (sym starts ∙ also) in omega (arith, first.last, ap (λ (x : Next). x.start) same))
            | inr waits ↦ (
                let none : actions ≡ [] = none_early s (suc last) receiver (λ m also. let same : n ≡ m = same_Some n m (sym starts ∙ also) in omega (arith, behind, waits.ahead, ap (λ (x : Next). x.start) same)) in
                ap (λ (b : Bool). is_fresh (swept b last actions) m) loud ∙ ap (λ now. is_fresh (swept false last now) m) none)
          ])
    ]
      where
        begun : HasBegun s receiver → is_fresh (swept quiet last actions) m ≡ true
        begun has = fresh_late quiet last actions m (λ r there. start_below s streams.lawful (suc last) receiver r there) (omega (arith, behind, is.fresh has))

    into_first : (m : Message) → Contains (s.opening.messages stream) m → Contains (queue_of s (suc last) stream) m
    into_first m c =
        let is = All-contains (IsHeldBefore s stream) (s.opening.messages stream) m (run.opened.messages stream).each c in
        let sent = (contains_messages s streams (history s (suc last)) stream m).1 (inl c) in
        (contains_queue s streams laws last stream m).1 ((sent, untaken_first m, fresh_first m is), omega (arith, behind, is.entered))

    first_is : queue_of s (suc last) stream ≡ s.opening.messages stream
    first_is = same_messages (queue_of s (suc last) stream) (s.opening.messages stream) (strictly_queue s streams laws (suc last) stream) (streams.rise stream) (λ m. (from_first m, into_first m))

  none_held : (messages : List Message) → s.opening.messages stream ≡ messages → s.opening.dates ≡ 0 → [] ≡ messages
  none_held [] is none = refl
  none_held (m ∷ more) is none =
      let there : Contains (s.opening.messages stream) m = subst (λ ms. Contains ms m) (sym is) (contains_front m more) in
      absurd (omega (arith, none, (All-contains (IsBefore s.opening.dates) (s.opening.messages stream) m (streams.held stream) there).entered))

  by_dates : (dates : ℕ) → s.opening.dates ≡ dates → queue_of s dates stream ≡ s.opening.messages stream
  by_dates zero none = none_held (s.opening.messages stream) refl none
  by_dates (suc last) behind = first_is last behind

  -- A queue begins with the opening's messages.
  pub queue_begins : queue_of s s.opening.dates stream ≡ s.opening.messages stream
  queue_begins = by_dates s.opening.dates refl
