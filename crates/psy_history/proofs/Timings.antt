-- Points of an agent: their budgets, which may follow which, and that actions end behind their starts.
use Rattle.std.proofs.Common.{◌≡◌, ℕ, zero, suc, ◌<◌, ◌≤◌, List, [], ◌∷◌, length, get_or, Some, ap, subst, arith}
use Rattle.std.specs.Prelude.{slice_get}
use Rattle.std.specs.List.{Contains}
use Rattle.std.proofs.lemmas.Option.{get_or_from_slice_get, slice_get-get_or, slice_get_within}
use Rattle.psy_lists.proofs.lemmas.Places.{listed_at}
use Rattle.psy_lists.proofs.lemmas.Members.{get_or_holds}
use Rattle.psy_clock.specs.declared.clock.Clock.{Clock}
use Rattle.psy_clock.specs.Dates.{IsClock, after_date}
use Rattle.psy_tree.specs.declared.unit.AgentDecl.{AgentDecl}
use Rattle.psy_tree.specs.declared.unit.Point.{Point}
use Rattle.psy_tree.specs.declared.unit.Unit.{Unit as Whole}
use Rattle.psy_meaning.specs.Flow.{AreNexts, IsNext}
use Rattle.psy_meaning.specs.Timing.{Timing, timing_of, budget_at, clock_at, end_date, following, point_at}
use Rattle.psy_meaning.specs.Units.{HasHead, IsBare, IsBareAgent, IsBarePoint}
use Rattle.psy_tree.specs.Parts.{no_clock}

-- ---- parts by number

pub every_tick : IsClock no_clock
every_tick = record { first = omega arith; period = omega arith }

module _ (unit : Whole) (agent : AgentDecl) where
  counted : (points : List Point) → HasHead agent points (IsBarePoint unit) → (point : ℕ) (d : Point) → 1 ≤ point → point < length points → 1 ≤ (get_or points point d).count
  counted [] h point d inner less = absurd h
  counted (head ∷ rest) h zero d inner less = absurd (omega (arith, inner))
  counted (head ∷ rest) h (suc k) d inner less = (h.1 k d (omega (arith, less))).count.0

  some_points : (points : List Point) → HasHead agent points (IsBarePoint unit) → 0 < length points
  some_points [] h = absurd h
  some_points (head ∷ rest) h = omega arith

  granted_in : 1 ≤ agent.budget → (points : List Point) → HasHead agent points (IsBarePoint unit) → (point : ℕ) (d : Point) → point < length points → 1 ≤ (get_or points point d).budget
  granted_in own [] h point d less = absurd h
  granted_in own (head ∷ rest) h zero d less = let e : head.budget ≡ agent.budget = ap (λ p. p.budget) h.0 in omega (arith, own, e)
  granted_in own (head ∷ rest) h (suc k) d less = (h.1 k d (omega (arith, less))).budget.0

-- ---- the actions of an agent

abbrev pub ComesLate : Type 0
ComesLate = (c : Clock) (t k : ℕ) → IsClock c → 1 ≤ k → t < after_date c t k

module _ (unit : Whole) (number : ℕ) (agent : AgentDecl) (nexts : List (List ℕ)) where
  abbrev times : Timing
  times = timing_of unit agent nexts

  module _ (whole : IsBare unit) (of_unit : slice_get unit.agents number ≡ Some agent) where
    bare : IsBareAgent unit agent
    bare = subst (IsBareAgent unit) (get_or_from_slice_get unit.agents number agent agent of_unit) (whole.agents number agent (slice_get_within unit.agents number agent of_unit))

    pub granted : (point : ℕ) → point < length agent.points → 1 ≤ budget_at times point
    granted point less = granted_in unit agent bare.budget.0 agent.points bare.points point _ less

    -- The head of the body is a point.
    pub has_head : 0 < length agent.points
    has_head = some_points unit agent agent.points bare.points

    pub ends_late : ComesLate → (start to : ℕ) → 1 ≤ to → to < length agent.points → start < end_date times start to
    ends_late late start to some within =
        late (clock_at times (point_at times to).clock) start (point_at times to).count (get_or_holds IsClock unit.clocks (point_at times to).clock _ every_tick whole.clocks) (counted unit agent agent.points bare.points to _ some within)

  module _ (are : AreNexts unit.functions agent nexts) where
    -- what follows a point is what its code may reach
    pub follows : (point to : ℕ) → Contains (following times point) to → IsNext unit.functions agent point to
    follows point to c = (are.each point (get_or nexts point []) (listed_at nexts point to c) to).0 c

    pub followed : (point to : ℕ) → point < length agent.points → IsNext unit.functions agent point to → Contains (following times point) to
    followed point to less next = (are.each point (get_or nexts point []) (slice_get-get_or nexts point [] (omega (arith, less, are.length))) to).1 next
