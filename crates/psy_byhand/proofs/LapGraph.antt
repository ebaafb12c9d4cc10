-- The action graph of an agent whose actions all last from one date of the clock of every tenth tick to the next.
use Rattle.std.proofs.Common.{◌≡◌, ◌⊎◌, ℕ, zero, suc, ◌+◌, ◌*◌, List, [], ◌∷◌, Some, refl, sym, ap, ap₂, subst, ◌∙◌, inl, inr, arith}
use Rattle.std.specs.Prelude.{slice_get}
use Rattle.std.specs.List.{AllPairs, Contains}
use Rattle.std.specs.Int.{◌∣◌}
use Rattle.std.proofs.lemmas.Nat.Gcd.{dvd_refl}
use Rattle.std.proofs.lemmas.List.Elements.{All-cons, All-head, All-nil}
use Rattle.std.proofs.lemmas.List.Kept.{AllPairs-cons}
use Rattle.std.proofs.lemmas.Option.{none-some, same_Some}
use Rattle.psy_base.specs.declared.edge.Edge.{Edge}
use Rattle.psy_clock.specs.declared.clock.Clock.{Clock}
use Rattle.psy_clock.specs.Dates.{IsClock, after_date}
use Rattle.psy_meaning.specs.Graph.{AreEdges, AreSpots, EdgeBefore, IsCycle, IsEdgeOf, IsGraph, IsMet, Spot, SpotBefore, spot_at}
use Rattle.psy_meaning.specs.Timing.{MayStart, Timing, budget_at, deadline, end_date, first, following, later}
use Rattle.psy_byhand.specs.Laps.{onwards, points_of, tenth}

-- Dates come again period by period.
abbrev pub ComesAgain : Type 0
ComesAgain = (c : Clock) (t k n : ℕ) → IsClock c → after_date c (t + n * c.period) k ≡ after_date c t k + n * c.period

-- The timing of the agent, whose actions may take so many cycles
abbrev pub lapping : ℕ → Timing
lapping budget = record { clocks = tenth ∷ []; points = points_of budget; nexts = onwards }

-- An action from the head or from the place behind the `advance`, with this weight
abbrev pub lap : ℕ → ℕ → Edge
lap from weight = record { from = from; to = 1; len = 10; due = 10; weight = weight }

-- The edges of its graph
abbrev pub laps_of : ℕ → List Edge
laps_of weight = lap 0 weight ∷ lap 1 weight ∷ []

abbrev pub spot_of : ℕ → ℕ → Spot
spot_of point phase = record { point = point; phase = phase }

-- Its nodes
abbrev pub spots : List Spot
spots = spot_of 0 0 ∷ spot_of 1 0 ∷ []

pub is_tenth : IsClock tenth
is_tenth = record { first = omega arith; period = omega arith }

-- ---- members of short lists

pub only : (to : ℕ) → Contains (1 ∷ []) to → to ≡ 1
only to (zero, l, e) = sym e
only to (suc k, l, e) = absurd (omega (arith, l))

pub one_there : Contains {X = ℕ} (1 ∷ []) 1
one_there = (0, omega arith, refl)

rise_two : {X : Type 0} (Before : X → X → Type 0) (x y : X) → Before x y → AllPairs Before (x ∷ y ∷ [])
rise_two Before x y less = AllPairs-cons Before x (y ∷ []) (All-cons (Before x) y [] less (All-nil (Before x))) (AllPairs-cons Before y [] (All-nil (Before y)) (λ i j d before within. absurd (omega (arith, within))))

-- What follows a point is the one `advance`.
pub one_next : (budget point to : ℕ) → Contains (following (lapping budget) point) to → to ≡ 1
one_next budget zero to c = only to c
one_next budget (suc zero) to c = only to c
one_next budget (suc (suc point)) to c = absurd (omega (arith, c.1))

-- ---- where actions may start

-- An action starts so many dates on, at one of the two points.
pub record IsLap (point start : ℕ) : Type 0 where
  pub dates : ℕ
  pub at : start ≡ dates * 10
  pub point_is : (point ≡ 0) ⊎ (point ≡ 1)

module _ (again : ComesAgain) (budget : ℕ) where
  abbrev times : Timing
  times = lapping budget

  -- It ends ten ticks later.
  pub ends_on : (dates : ℕ) → end_date times (dates * 10) 1 ≡ 10 + dates * 10
  ends_on dates =
      let same : dates * 10 ≡ 0 + dates * 10 = omega arith in
      ap (λ t. end_date times t 1) same ∙ again tenth 0 1 dates is_tenth

  pub met : (point start : ℕ) → MayStart times point start → IsLap point start
  met point start first = record { dates = 0; at = refl; point_is = inl refl }
  met point start (later from begun to may c) =
      let before = met from begun may in
      let one = one_next budget from point c in
      let end = ap (λ to. end_date times begun to) one ∙ ap (λ date. end_date times date 1) before.at ∙ ends_on before.dates in
      record { dates = suc before.dates; at = omega (arith, end); point_is = inr one }

  pub ends_late : (point start to : ℕ) → MayStart times point start → Contains (following times point) to → end_date times start to ≡ start + 10
  ends_late point start to may c =
      let at = (met point start may).at in
      let end = ap (λ to. end_date times start to) (one_next budget point to c) ∙ ap (λ date. end_date times date 1) at ∙ ends_on (met point start may).dates in
      omega (arith, end, at)

  -- Its deadline is that end.
  due_at : (point start : ℕ) → (point ≡ 0) ⊎ (point ≡ 1) → deadline times point start ≡ end_date times start 1
  due_at point start (inl e) = ap (λ p. deadline times p start) e
  due_at point start (inr e) = ap (λ p. deadline times p start) e

  pub due_in_ten : (point start : ℕ) → MayStart times point start → deadline times point start ≡ start + 10
  due_in_ten point start may =
      let its = met point start may in
      let at = its.at in
      let end = due_at point start its.point_is ∙ ap (λ date. end_date times date 1) at ∙ ends_on its.dates in
      omega (arith, end, at)

  weighs : (point : ℕ) → (point ≡ 0) ⊎ (point ≡ 1) → budget_at times point ≡ budget
  weighs point (inl e) = ap (λ p. budget_at times p) e
  weighs point (inr e) = ap (λ p. budget_at times p) e

  -- The second action may start at date 10.
  second : MayStart times 1 10
  second = later 0 0 1 first one_there

  -- ---- nodes

  meets : (spot : Spot) → Contains spots spot → IsMet times 10 spot
  meets spot (zero, l, e) = subst (IsMet times 10) e (0, first, refl)
  meets spot (suc zero, l, e) = subst (IsMet times 10) e (10, second, refl)
  meets spot (suc (suc k), l, e) = absurd (omega (arith, l))

  listed : (spot : Spot) → IsMet times 10 spot → Contains spots spot
  listed spot (start, may, phase) =
      let its = met spot.point start may in
      let at = its.at in
      let none : spot.phase ≡ 0 = omega (arith, phase, at) in
      elim its.point_is [
        | inl e ↦ (0, omega arith, ap₂ spot_of (sym e) (sym none))
        | inr e ↦ (1, omega arith, ap₂ spot_of (sym e) (sym none))
      ]

  nodes : AreSpots times 10 spots
  nodes = record {
    rise = rise_two SpotBefore (spot_of 0 0) (spot_of 1 0) (inl (omega arith));
    all = λ spot. (meets spot, listed spot);
  }

  -- ---- edges

  first_lap : IsEdgeOf times 10 spots 0 0 1 (lap 0 budget)
  first_lap = record { starts = first; follows = one_there; from = refl; into = refl; len = refl; due = refl; weight = refl }

  next_lap : IsEdgeOf times 10 spots 1 10 1 (lap 1 budget)
  next_lap = record { starts = second; follows = one_there; from = refl; into = refl; len = refl; due = refl; weight = refl }

  abbrev IsSomeEdge : Edge → Type 0
  IsSomeEdge e = (point start to : ℕ) × IsEdgeOf times 10 spots point start to e

  drawn : (e : Edge) → Contains (laps_of budget) e → IsSomeEdge e
  drawn e (zero, l, is) = subst IsSomeEdge is (0, 0, 1, first_lap)
  drawn e (suc zero, l, is) = subst IsSomeEdge is (1, 10, 1, next_lap)
  drawn e (suc (suc k), l, is) = absurd (omega (arith, l))

  -- A node is numbered by its point.
  number_is : (k : ℕ) (spot : Spot) → slice_get spots k ≡ Some spot → k ≡ spot.point
  number_is zero spot e = ap (λ (s : Spot). s.point) (same_Some (spot_of 0 0) spot e)
  number_is (suc zero) spot e = ap (λ (s : Spot). s.point) (same_Some (spot_of 1 0) spot e)
  number_is (suc (suc k)) spot e = absurd (none-some spot e)

  is_lap : (e : Edge) (from : ℕ) → e.from ≡ from → e.to ≡ 1 → e.len ≡ 10 → e.due ≡ 10 → e.weight ≡ budget → lap from budget ≡ e
  is_lap e from a b c d w =
      let is : lap from budget ≡ record { from = e.from; to = e.to; len = e.len; due = e.due; weight = e.weight } = rw (a, b, c, d, w) refl in
      is

  found : (e : Edge) → IsSomeEdge e → Contains (laps_of budget) e
  found e (point, start, to, is) =
      let its = met point start is.starts in
      let end = ends_late point start to is.starts is.follows in
      let from = number_is e.from (spot_at 10 point start) is.from in
      let into = number_is e.to (spot_at 10 to (end_date times start to)) is.into ∙ one_next budget point to is.follows in
      let len : e.len ≡ 10 = omega (arith, is.len, end) in
      let by = is.due ∙ due_in_ten point start is.starts in
      let due : e.due ≡ 10 = omega (arith, by) in
      let weight = is.weight ∙ weighs point its.point_is in
      elim its.point_is [
        | inl z ↦ (0, omega arith, is_lap e 0 (from ∙ z) into len due weight)
        | inr z ↦ (1, omega arith, is_lap e 1 (from ∙ z) into len due weight)
      ]

  links : AreEdges times 10 spots (laps_of budget)
  links = record {
    rise = rise_two EdgeBefore (lap 0 budget) (lap 1 budget) (inl (omega arith));
    all = λ e. (drawn e, found e);
  }

  is_cycle : IsCycle times 10
  is_cycle = record { common = All-cons (λ number. number ∣ 10) 10 [] (dvd_refl 10) (All-nil (λ number. number ∣ 10)); least = λ m all. All-head (λ number. number ∣ m) 10 [] all }

  pub lap_graph : IsGraph times spots (laps_of budget)
  lap_graph = record { cycle = 10; is_cycle = is_cycle; nodes = nodes; links = links }
