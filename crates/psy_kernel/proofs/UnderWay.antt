-- Behind a date, an agent's action is under way where its seat says so; where none is, an agent waits, is silent, or starts an action there.
use Rattle.std.proofs.Common.{◌≡◌, ◌⊎◌, ℕ, zero, suc, ◌+◌, ◌<◌, ◌≤◌, ◌==◌, ◌&&◌, Bool, true, false, not, nat_lt, nat_le, List, [], ◌∷◌, length, Option, Some, None, refl, sym, ap, subst, ◌∙◌, inl, inr, arith}
use Rattle.std.specs.List.{All}
use Rattle.std.proofs.lemmas.Bool.{and_cases, cases_eq, cond-true, eq-eqb, le-ltb, lt-leb, lt-ltb, ltb-false, ne_eqb, not-false}
use Rattle.std.proofs.lemmas.List.Elements.{All-head}
use Rattle.psy_history.specs.Actions.{Action, Next, System, Verdict, Done, Trapped, Overran, is_done, is_silent, next_by, next_of, rests}
use Rattle.psy_history.specs.History.{action_of, history, with_start}
use Rattle.psy_history.specs.Regular.{IsLawful, IsRegular, WereStarted, first_number}
use Rattle.psy_history.specs.Resuming.{is_busy}
use Rattle.psy_history.specs.Schedule.{Turn, is_pending, units}
use Rattle.psy_dates.specs.declared.seat.Phase.TheVariants as phase
use Rattle.psy_dates.specs.declared.seat.Seat.{Seat}
use Rattle.psy_dates.specs.Standing.{IsSeated, SeatOf, phase_by}
use Rattle.psy_dates.proofs.lemmas.Begun.{AreBegun}
use Rattle.psy_kernel.specs.Freezing.{is_under_way, is_under_way_by}
use Rattle.psy_kernel.proofs.Started.{Sits, grown_by, last_sits, pends}

-- ---- tests

none_and : (b : Bool) → false ≡ (b && false)
none_and true = refl
none_and false = refl

and_true : (b : Bool) → b ≡ (b && true)
and_true true = refl
and_true false = refl

not_loud : (done late : Bool) → (not done && late) ≡ true → (done ≡ false) × (late ≡ true)
not_loud true late e = absurd (cc)
not_loud false late e = (refl, e)

early_loud : (done late : Bool) → late ≡ false → (not done && late) ≡ false
early_loud true late e = refl
early_loud false late e = e

-- ---- an agent that there isn't

-- It has no actions.
pub none_known : (s : System) → IsLawful s → (dates agent : ℕ) → length s.unit.agents ≤ agent → history s dates agent ≡ []
none_known s lawful dates agent past = from (history s dates agent) (lawful.actions dates agent).each
  where
    from : (rs : List Action) → All (IsRegular s agent) rs → rs ≡ []
    from [] all = refl
    from (r ∷ more) all = absurd (let known = IsRegular.known (All-head (IsRegular s agent) r more all) in omega (arith, known, past))

-- ---- an agent that hasn't started

-- Where an agent has no action yet, its first one starts no earlier than at the dates that are over.
module _ (s : System) (agent : ℕ) (n : Next) (is : s.opening.starts agent ≡ Some n) where
  none_yet : (date : ℕ) → history s (suc date) agent ≡ [] → history s date agent ≡ []
  none_yet date none = elim (grown_by s (history s date) date agent (history s date agent) (next_of s agent (history s date agent))) [
    | inl same ↦ sym same ∙ none
    | inr (m, next, at, more) ↦ (let no : action_of s (history s date) agent m ∷ history s date agent ≡ [] = sym more ∙ none in absurd cc)
  ]

  pub first_late : (date : ℕ) → history s date agent ≡ [] → date ≤ n.start
  first_late zero none = omega arith
  first_late (suc date) none =
      let old : List Action = history s date agent in
      let before : old ≡ [] = none_yet date none in
      let late = first_late date before in
      let next : next_of s agent old ≡ Some n = ap (next_of s agent) before ∙ is in
      let kept : with_start s (history s date) date agent old (Some n) ≡ [] = sym (ap (with_start s (history s date) date agent old) next) ∙ none in
      elim (cases_eq n.start date) [
        | inl at ↦ (
            let no : action_of s (history s date) agent n ∷ old ≡ [] =
            sym (cond-true (n.start == date) (action_of s (history s date) agent n ∷ old) old (eq-eqb n.start date at)) ∙ kept in
            absurd cc)
        | inr other ↦ grind (arith, other, late)
      ]

-- ---- an agent at a date

-- What is known of an agent at a date: what it started before has had so many cycles, and what it starts there none.
pub record IsAgentAt (s : System) (date agent : ℕ) (turns : List (Option Turn)) : Type 0 where
  pub lawful : IsLawful s
  pub opens : AreBegun s (suc date)
  pub unstarted : (number : ℕ) → first_number s agent + length (history s date agent) ≤ number → units agent number turns ≡ 0

module _ (s : System) (date agent : ℕ) (turns : List (Option Turn)) (at : IsAgentAt s date agent turns) where
  abbrev pub old : List Action
  old = history s date agent

  abbrev pub now : List Action
  now = history s (suc date) agent

  -- The action that it starts there, where it starts one
  pub record Starts (n : Next) : Type 0 where
    pub is_next : next_of s agent old ≡ Some n
    pub at_date : n.start ≡ date
    pub grew : now ≡ action_of s (history s date) agent n ∷ old

  pub grows : (now ≡ old) ⊎ ((n : Next) × Starts n)
  grows = elim (grown_by s (history s date) date agent old (next_of s agent old)) [
    | inl same ↦ inl same
    | inr (n, is_next, at_date, grew) ↦ inr (n, record { is_next = is_next; at_date = at_date; grew = grew })
  ]

  module _ (n : Next) (starts : Starts n) where
    abbrev pub action : Action
    action = action_of s (history s date) agent n

    pub regular : IsRegular s agent action
    regular = All-head (IsRegular s agent) action old (subst (All (IsRegular s agent)) starts.grew (at.lawful.actions (suc date) agent).each)

    pub none_had : units agent action.number turns ≡ 0
    none_had =
        let number = (subst (WereStarted s (suc date) agent) starts.grew (at.lawful.actions (suc date) agent).were_started).0.number in
        at.unstarted action.number (omega (arith, number))

    pub pending : is_pending turns action ≡ true
    pending = pends turns action none_had regular.granted regular.charged

    -- it is due later, so it isn't silent there
    pub due_later : date < action.deadline
    due_later = omega (arith, regular.due, starts.at_date)

    pub loud : (before : List Action) → is_silent date (action ∷ before) ≡ false
    loud before = early_loud (is_done action.verdict) (nat_le action.deadline date) (lt-leb action.deadline date due_later)

  -- what stands in the history before the date started before it,
  old_starts : (r : Action) (before : List Action) → old ≡ r ∷ before → r.start < date
  old_starts r before is =
      let was = (subst (WereStarted s date agent) is (at.lawful.actions date agent).were_started).0 in
      let start : r.start ≡ was.next.start = ap (λ (q : Action). q.start) was.made in
      omega (arith, start, was.at)

  now_starts : (r : Action) (before : List Action) → now ≡ r ∷ before → r.start ≤ date
  now_starts r before is =
      let was = (subst (WereStarted s (suc date) agent) is (at.lawful.actions (suc date) agent).were_started).0 in
      let start : r.start ≡ was.next.start = ap (λ (q : Action). q.start) was.made in
      omega (arith, start, was.at)

  -- and what isn't pending did too.
  over_starts : (r : Action) (before : List Action) → now ≡ r ∷ before → is_pending turns r ≡ false → r.start < date
  over_starts r before is over = elim grows [
    | inl same ↦ old_starts r before (sym same ∙ is)
    | inr (n, starts) ↦ (
        let both : action n starts ∷ old ≡ r ∷ before = sym starts.grew ∙ is in
        let same : action n starts ≡ r = cc in
        let no : true ≡ false = sym (pending n starts) ∙ ap (is_pending turns) same ∙ over in
        absurd cc)
  ]

  -- ---- by its seat

  module _ (seat : Seat) where
    none_busy : (quiet : Bool) → IsSeated quiet s.opening.dates date turns [] seat → is_under_way date seat ≡ false
    none_busy false waits = ap (λ p. is_under_way_by p (seat.start == date)) waits
    none_busy true rests = ap (λ p. is_under_way_by p (seat.start == date)) rests.phase

    by_phase : (r : Action) (silent going done : Bool) → seat.start ≡ r.start → r.start ≤ date → (going ≡ false → r.start < date)
        → is_under_way_by (phase_by silent going done) (seat.start == date) ≡ (nat_lt r.start date && not silent)
    by_phase r true going done start early over = none_and (nat_lt r.start date)
    by_phase r false true done start early over = elim (cases_eq r.start date) [
      | inl same ↦ (
          let on : (seat.start == date) ≡ true = eq-eqb seat.start date (start ∙ same) in
          let late : nat_lt r.start date ≡ false = le-ltb r.start date (omega (arith, same)) in
          ap not on ∙ sym late ∙ and_true (nat_lt r.start date))
      | inr other ↦ (
          let off : (seat.start == date) ≡ false = ne_eqb seat.start date (λ e. other (sym start ∙ e)) in
          let before : r.start < date = grind (arith, other, early) in
          ap not off ∙ sym (lt-ltb r.start date before) ∙ and_true (nat_lt r.start date))
    ]
    by_phase r false false true start early over = sym (lt-ltb r.start date (over refl)) ∙ and_true (nat_lt r.start date)
    by_phase r false false false start early over = sym (lt-ltb r.start date (over refl)) ∙ and_true (nat_lt r.start date)

    by_list : (rs : List Action) → now ≡ rs → Sits s date turns agent rs seat → is_under_way date seat ≡ is_busy date rs
    by_list [] is sits = none_busy (s.opening.silent agent) sits
    by_list (r ∷ before) is sits =
        let of : SeatOf date turns r seat = last_sits s date agent turns r before seat sits in
        ap (λ p. is_under_way_by p (seat.start == date)) of.phase
        ∙ by_phase r (is_silent date (r ∷ [])) (is_pending turns r) (is_done r.verdict) of.start (now_starts r before is) (over_starts r before is)

    -- The seat says whether its action is under way.
    pub under_way_is : Sits s date turns agent now seat → is_under_way date seat ≡ is_busy date now
    under_way_is sits = by_list now refl sits

    -- ---- where none is

    -- It hasn't begun.
    pub record Waits : Type 0 where
      pub waiting : seat.phase ≡ phase.Waiting
      pub none_now : now ≡ []
      pub none_old : old ≡ []
      pub talks : s.opening.silent agent ≡ false

    -- It is silent.
    pub record Rests : Type 0 where
      pub rested : seat.phase ≡ phase.Silent
      pub ends : next_of s agent old ≡ None
      pub quiet : rests (s.opening.silent agent) date old ≡ true
      pub still : now ≡ old

    -- It starts an action at the date.
    pub record Begins : Type 0 where
      pub next : Next
      pub starts : Starts next
      pub acting : seat.phase ≡ phase.Acting
      pub number : seat.number ≡ next.number
      pub point : seat.point ≡ next.point

    abbrev pub Stands : Type 0
    Stands = Waits ⊎ Rests ⊎ Begins

    none_before : now ≡ [] → old ≡ []
    none_before none = elim grows [
      | inl same ↦ sym same ∙ none
      | inr (n, starts) ↦ (let no : action n starts ∷ old ≡ [] = sym starts.grew ∙ none in absurd cc)
    ]

    none_stands : (quiet : Bool) → s.opening.silent agent ≡ quiet → now ≡ [] → IsSeated quiet s.opening.dates date turns [] seat → Stands
    none_stands false talks none waits = inl (record { waiting = waits; none_now = none; none_old = none_before none; talks = talks })
    none_stands true silent none is =
        let before = none_before none in
        inr (inl (record {
          rested = is.phase;
          ends = ap (next_of s agent) before ∙ at.opens.unstarted agent silent;
          quiet = ap (rests (s.opening.silent agent) date) before ∙ silent;
          still = none ∙ sym before;
        }))

    stopped_none : (number : ℕ) (v : Verdict) (r : Action) → is_done v ≡ false → next_by number r.after v ≡ None
    stopped_none number (Done point end) r stopped = absurd (cc)
    stopped_none number (Trapped kind) r stopped = refl
    stopped_none number Overran r stopped = refl

    silent_stands : (r : Action) (before : List Action) → now ≡ r ∷ before → SeatOf date turns r seat → is_silent date (r ∷ before) ≡ true → Stands
    silent_stands r before is of silent = elim grows [
      | inl same ↦ (
          let here : old ≡ r ∷ before = sym same ∙ is in
          let stopped = not_loud (is_done r.verdict) (nat_le r.deadline date) silent in
          inr (inl (record {
            rested = of.phase ∙ ap (λ b. phase_by b (is_pending turns r) (is_done r.verdict)) silent;
            ends = ap (next_of s agent) here ∙ stopped_none r.number r.verdict r stopped.0;
            quiet = ap (rests (s.opening.silent agent) date) here ∙ silent;
            still = same;
          })))
      | inr (n, starts) ↦ (
          let both : action n starts ∷ old ≡ r ∷ before = sym starts.grew ∙ is in
          let same : action n starts ≡ r = cc in
          let no : true ≡ false = sym silent ∙ ap (λ (q : Action). is_silent date (q ∷ before)) (sym same) ∙ loud n starts before in
          absurd cc)
    ]

    acting_stands : (r : Action) (before : List Action) → now ≡ r ∷ before → SeatOf date turns r seat → date ≤ r.start → Stands
    acting_stands r before is of late = elim grows [
      | inl same ↦ absurd (let early = old_starts r before (sym same ∙ is) in omega (arith, early, late))
      | inr (n, starts) ↦ (
          let both : action n starts ∷ old ≡ r ∷ before = sym starts.grew ∙ is in
          let same : r ≡ action n starts = cc in
          inr (inr (record {
            next = n;
            starts = starts;
            acting = of.phase ∙ ap (λ (q : Action). phase_by (is_silent date (q ∷ [])) (is_pending turns q) (is_done q.verdict)) same
                ∙ ap (λ b. phase_by b (is_pending turns (action n starts)) (is_done (action n starts).verdict)) (loud n starts [])
                ∙ ap (λ b. phase_by false b (is_done (action n starts).verdict)) (pending n starts);
            number = of.number ∙ ap (λ (q : Action). q.number) same;
            point = of.point ∙ ap (λ (q : Action). q.point) same;
          })))
    ]

    stands_by : (rs : List Action) → now ≡ rs → Sits s date turns agent rs seat → is_busy date rs ≡ false → Stands
    stands_by [] is sits quiet = none_stands (s.opening.silent agent) refl is sits
    stands_by (r ∷ before) is sits quiet =
        let of : SeatOf date turns r seat = last_sits s date agent turns r before seat sits in
        elim (and_cases (nat_lt r.start date) (not (is_silent date (r ∷ before))) quiet) [
          | inl late ↦ acting_stands r before is of (ltb-false r.start date late)
          | inr silent ↦ silent_stands r before is of (not-false (is_silent date (r ∷ before)) silent)
        ]

    -- An agent whose action isn't under way waits, is silent, or starts one.
    pub stands : Sits s date turns agent now seat → is_busy date now ≡ false → Stands
    stands sits quiet = stands_by now refl sits quiet
