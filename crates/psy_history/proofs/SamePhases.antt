-- Actions from one point that start in the same phase: they are due and end as far from their starts.
use Rattle.std.proofs.Common.{◌≡◌, ℕ, ◌+◌, ◌-◌, ◌*◌, ◌/◌, ◌%◌, ◌<◌, ◌≤◌, List, [], ◌∷◌, All, map, drop, length, get_or, inl, inr, sym, ap, subst, ◌∙◌, arith}
use Rattle.std.specs.Int.{◌∣◌}
use Rattle.std.specs.List.{Contains}
use Rattle.std.proofs.Math.Nat.{add-mul-mod_self_right, div-mul_cancel}
use Rattle.std.proofs.lemmas.List.{get_or-drop, get_or-map, length-drop, length-map}
use Rattle.std.proofs.lemmas.List.Elements.{All-head, All-tail}
use Rattle.psy_lists.proofs.lemmas.Members.{all_members, get_or_holds}
use Rattle.psy_clock.specs.declared.clock.Clock.{Clock}
use Rattle.psy_clock.specs.Dates.{IsClock, after_date}
use Rattle.psy_tree.specs.declared.unit.Point.{Point}
use Rattle.psy_history.specs.Actions.{Action, System, timing}
use Rattle.psy_meaning.specs.Graph.{IsCycle, periods}
use Rattle.psy_meaning.specs.Timing.{Timing, clock_at, deadline, end_date, following, least, point_at}
use Rattle.psy_meaning.specs.Timing as may
use Rattle.psy_history.specs.Regular.{IsRegular, MayStartAlike}
use Rattle.psy_history.proofs.Deadlines.{some_follows}
use Rattle.psy_history.proofs.Timings.{every_tick}

-- The dates of a clock come again period by period.
abbrev pub ComesAgain : Type 0
ComesAgain = (c : Clock) (t k n : ℕ) → IsClock c → after_date c (t + n * c.period) k ≡ after_date c t k + n * c.period

-- ---- phases

later_phase : (early late apart cycle : ℕ) → cycle ∣ apart → late ≡ early + apart → late % cycle ≡ early % cycle
later_phase early late apart cycle whole is =
    let cycles : apart / cycle * cycle ≡ apart = div-mul_cancel cycle whole in
    ap (λ date. date % cycle) (is ∙ ap (λ n. early + n) (sym cycles)) ∙ add-mul-mod_self_right early (apart / cycle) cycle

-- The date of an action and that of one that may start are of the same phase.
pub same_phase : (timing : Timing) (point start : ℕ) (alike : MayStartAlike timing point start) (cycle : ℕ) → IsCycle timing cycle → start % cycle ≡ alike.met % cycle
same_phase timing point start alike cycle is = elim alike.far [
  | inl behind ↦ later_phase alike.met start alike.apart cycle (is.least alike.apart alike.whole) behind
  | inr before ↦ sym (later_phase start alike.met alike.apart cycle (is.least alike.apart alike.whole) before)
]

-- ---- ends

module _ (again : ComesAgain) (timing : Timing) (clocks : All IsClock timing.clocks) where
  abbrev clock_of : ℕ → Clock
  clock_of to = clock_at timing (point_at timing to).clock

  -- whole periods of all clocks are whole periods of the clock of each `advance`
  period_divides : (apart : ℕ) → All (λ period. period ∣ apart) (periods timing) → (to : ℕ) → 1 ≤ to → to < length timing.points → (clock_of to).period ∣ apart
  period_divides apart whole to some within =
      let period : Point → ℕ = λ point. (clock_at timing point.clock).period in
      let no : Point = record { count = 1; clock = 0; budget = 0 } in
      let points = timing.points in
      let less : to - 1 < length (drop 1 points) = omega (arith, length-drop 1 points, some, within) in
      let at : get_or (periods timing) (to - 1) 0 ≡ (clock_of to).period =
      get_or-map period (drop 1 points) (to - 1) no 0 less ∙ ap period (get_or-drop 1 points (to - 1) no ∙ ap (λ n. get_or points n no) (omega (arith, some))) in
      subst (λ n. n ∣ apart) at (whole (to - 1) 0 (omega (arith, less, length-map (drop 1 points) period)))

  end_later : (apart : ℕ) → All (λ period. period ∣ apart) (periods timing) → (start to : ℕ) → 1 ≤ to → to < length timing.points → end_date timing (start + apart) to ≡ end_date timing start to + apart
  end_later apart whole start to some within =
      let clock = clock_of to in
      let count = (point_at timing to).count in
      let n = apart / clock.period in
      let cycles : n * clock.period ≡ apart = div-mul_cancel clock.period (period_divides apart whole to some within) in
      let is : IsClock clock = get_or_holds IsClock timing.clocks (point_at timing to).clock _ every_tick clocks in
      ap (λ m. after_date clock (start + m) count) (sym cycles) ∙ again clock start count n is ∙ ap (λ m. after_date clock start count + m) cycles

  -- Both last as long to each point of an `advance`.
  pub end_alike : (point start : ℕ) (alike : MayStartAlike timing point start) (to : ℕ) → 1 ≤ to → to < length timing.points → end_date timing start to + alike.met ≡ end_date timing alike.met to + start
  end_alike point start alike to some within = elim alike.far [
    | inl behind ↦ (
        let later = end_later alike.apart alike.whole alike.met to some within in
        let same : end_date timing start to ≡ end_date timing (alike.met + alike.apart) to = ap (λ date. end_date timing date to) behind in
        omega (arith, later, same, behind))
    | inr before ↦ (
        let later = end_later alike.apart alike.whole start to some within in
        let same : end_date timing alike.met to ≡ end_date timing (start + alike.apart) to = ap (λ date. end_date timing date to) before in
        omega (arith, later, same, before))
  ]

-- So the next action starts in the phase of one that may start.
abbrev pub next_alike : (timing : Timing) (point start : ℕ) (alike : MayStartAlike timing point start) (to : ℕ) → Contains (following timing point) to → end_date timing start to + alike.met ≡ end_date timing alike.met to + start
    → MayStartAlike timing to (end_date timing start to)
next_alike timing point start alike to follows same = record {
  met = end_date timing alike.met to;
  may = may.later point alike.met to alike.may follows;
  apart = alike.apart;
  whole = alike.whole;
  far = elim alike.far [
    | inl behind ↦ inl (omega (arith, same, behind))
    | inr before ↦ inr (omega (arith, same, before))
  ];
}

-- ---- deadlines

-- Where each number lies as far from its own mark, the least does.
least_alike : (f g : ℕ → ℕ) (a b : ℕ) (xs : List ℕ) → 1 ≤ length xs → All (λ x. f x + a ≡ g x + b) xs → least (map f xs) + a ≡ least (map g xs) + b
least_alike f g a b [] some all = absurd (omega (arith, some))
least_alike f g a b (x ∷ []) some all = All-head (λ x. f x + a ≡ g x + b) x [] all
least_alike f g a b (x ∷ y ∷ xs) some all =
    let head : f x + a ≡ g x + b = All-head (λ x. f x + a ≡ g x + b) x (y ∷ xs) all in
    let rest : least (map f (y ∷ xs)) + a ≡ least (map g (y ∷ xs)) + b = least_alike f g a b (y ∷ xs) (omega arith) (All-tail (λ x. f x + a ≡ g x + b) x (y ∷ xs) all) in
    omega (arith, head, rest)

module _ (s : System) (agent : ℕ) (r : Action) (its : IsRegular s agent r) where
  -- A regular action is due as far from its start as one that may start.
  pub due_alike : r.deadline + its.starts.met ≡ deadline (timing s agent) r.point its.starts.met + r.start
  due_alike =
      let times = timing s agent in
      let (to, follows) = some_follows times r.point r.start (omega (arith, its.due, its.deadline)) in
      let least = least_alike (end_date times r.start) (end_date times its.starts.met) its.starts.met r.start (following times r.point) (omega (arith, follows.1))
      (all_members (λ to. end_date times r.start to + its.starts.met ≡ end_date times its.starts.met to + r.start) (following times r.point) its.alike) in
      omega (arith, least, its.deadline)

  -- Where it may end, the next one may start alike.
  abbrev pub goes_alike : (to : ℕ) → Contains (following (timing s agent) r.point) to → MayStartAlike (timing s agent) to (end_date (timing s agent) r.start to)
  goes_alike to follows = next_alike (timing s agent) r.point r.start its.starts to follows (its.alike to follows)
