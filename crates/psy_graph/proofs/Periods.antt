-- The periods of an agent's clocks, and the cycle that they make.
use Rattle.std.proofs.Common.{◌≡◌, ℕ, ◌+◌, ◌-◌, ◌%◌, ◌<◌, ◌≤◌, [], ◌∷◌, ◌++◌, All, map, take, drop, length, get_or, sym, ap, subst, ◌∙◌, arith}
use Rattle.std.specs.Int.{◌∣◌}
use Rattle.std.proofs.Math.Nat.{mod-eq_of_lt}
use Rattle.std.proofs.lemmas.Nat.Gcd.{le_of_dvd}
use Rattle.std.proofs.lemmas.List.{map_more, get_or-drop, take-map, length-drop}
use Rattle.std.proofs.lemmas.List.Elements.{All-get_or, All-map, All-drop, All-take, All-weaker}
use Rattle.psy_clock.specs.Dates.{IsClock}
use Rattle.psy_tree.specs.declared.unit.Point.{Point}
use Rattle.psy_meaning.specs.Timing.{Timing, point_at, clock_at}
use Rattle.psy_meaning.specs.Graph.{IsLeastCommonMultiple, IsCycle, periods}
use Rattle.psy_graph.specs.declared.cycle.TheConstants.{FAR}
use Rattle.psy_graph.specs.Graphs.{IsTimed}
use Rattle.psy_graph.specs.Steps.{joined, cycle_of, IsModulus}
use Rattle.psy_graph.proofs.lemmas.Cycles.{multiple_is, least_same, least_push, joined_is}

-- The period of the clock that a point names
abbrev pub period_of : Timing → Point → ℕ
period_of timing point = (clock_at timing point.clock).period

named_lawful : (timing : Timing) → IsTimed timing → (clock : ℕ) → clock < length timing.clocks → IsClock (clock_at timing clock)
named_lawful timing timed clock h = All-get_or IsClock timing.clocks clock (record { period = 1; first = 0 }) h timed.clocks

-- A point's clock is lawful.
pub clock_lawful : (timing : Timing) → IsTimed timing → (point : ℕ) → point < length timing.points → IsClock (clock_at timing (point_at timing point).clock)
clock_lawful timing timed point h = named_lawful timing timed (point_at timing point).clock (timed.named point (record { count = 1; clock = 0; budget = 0 }) h)

pub periods_some : (timing : Timing) → IsTimed timing → All (λ n. 1 ≤ n) (periods timing)
periods_some timing timed =
    let positive : (p : Point) → p.clock < length timing.clocks → 1 ≤ period_of timing p = λ p h. (let l = named_lawful timing timed p.clock h in omega (arith, l.first)) in
    All-map (λ n. 1 ≤ n) (period_of timing) (drop 1 timing.points)
    (All-drop (λ p. 1 ≤ period_of timing p) 1 timing.points (All-weaker (λ p. p.clock < length timing.clocks) (λ p. 1 ≤ period_of timing p) positive timing.points timed.named))

pub cycle_is : (timing : Timing) → IsTimed timing → IsCycle timing (cycle_of timing)
unfolding cycle_of
cycle_is timing timed = (multiple_is (periods timing) (periods_some timing timed)).0

pub cycle_some : (timing : Timing) → IsTimed timing → 1 ≤ cycle_of timing
unfolding cycle_of
cycle_some timing timed = (multiple_is (periods timing) (periods_some timing timed)).1

pub cycle_same : (timing : Timing) → IsTimed timing → (cycle : ℕ) → IsCycle timing cycle → cycle ≡ cycle_of timing
cycle_same timing timed cycle h = least_same (periods timing) cycle (cycle_of timing) h (cycle_is timing timed)

-- The periods of the points up to a number, and one more
periods_more : (timing : Timing) (at : ℕ) → 1 ≤ at → at < length timing.points →
    map (period_of timing) (take (at + 1 - 1) (drop 1 timing.points)) ≡ map (period_of timing) (take (at - 1) (drop 1 timing.points)) ++ period_of timing (point_at timing at) ∷ []
periods_more timing at some h =
    let no : Point = record { count = 1; clock = 0; budget = 0 } in
    let points = timing.points in
    let one : at + 1 - 1 ≡ at - 1 + 1 = omega (arith, some) in
    let two : 1 + (at - 1) ≡ at = omega (arith, some) in
    ap (λ n. map (period_of timing) (take n (drop 1 points))) one
    ∙ map_more (period_of timing) (drop 1 points) (at - 1) no (omega (arith, h, some, length-drop 1 points))
    ∙ ap (λ p. map (period_of timing) (take (at - 1) (drop 1 points)) ++ period_of timing p ∷ []) (get_or-drop 1 points (at - 1) no ∙ ap (λ n. get_or points n no) two)

pub multiple_more : (timing : Timing) (at m period : ℕ) → IsTimed timing → 1 ≤ at → at < length timing.points → 1 ≤ m → period ≡ period_of timing (point_at timing at) →
    IsLeastCommonMultiple (map (period_of timing) (take (at - 1) (drop 1 timing.points))) m →
    IsLeastCommonMultiple (map (period_of timing) (take (at + 1 - 1) (drop 1 timing.points))) (joined m period) × (1 ≤ joined m period)
multiple_more timing at m period timed some h ms is lcm =
    let lawful = clock_lawful timing timed at h in
    let join = joined_is m period ms (omega (arith, lawful.first, is)) in
    let front = map (period_of timing) (take (at - 1) (drop 1 timing.points)) in
    let pushed : IsLeastCommonMultiple (front ++ period ∷ []) (joined m period) = least_push period m (joined m period) front lcm join in
    (subst (λ xs. IsLeastCommonMultiple xs (joined m period)) (ap (λ p. front ++ p ∷ []) is ∙ sym (periods_more timing at some h)) pushed, join.some)

pub modulus_near : (timing : Timing) (m : ℕ) → IsTimed timing → 1 ≤ m → IsLeastCommonMultiple (periods timing) m → IsModulus timing m
modulus_near timing m timed some lcm = record {
  some = some;
  agrees = λ date h. ap (λ n. date % n) (cycle_same timing timed m lcm);
}

pub modulus_far : (timing : Timing) (k m : ℕ) → IsTimed timing → FAR < m → IsLeastCommonMultiple (map (period_of timing) (take k (drop 1 timing.points))) m → IsModulus timing (FAR + 1)
modulus_far timing k m timed far lcm =
    let cycle = cycle_of timing in
    let all : All (λ n. n ∣ cycle) (periods timing) = (cycle_is timing timed).common in
    let front : All (λ n. n ∣ cycle) (map (period_of timing) (take k (drop 1 timing.points))) =
    subst (All (λ n. n ∣ cycle)) (take-map (period_of timing) k (drop 1 timing.points)) (All-take (λ n. n ∣ cycle) k (periods timing) all) in
    let le : m ≤ cycle = le_of_dvd (cycle_some timing timed) (lcm.least cycle front) in
    record {
      some = omega arith;
      agrees = λ date h. mod-eq_of_lt (omega (arith, h)) ∙ sym (mod-eq_of_lt (omega (arith, h, far, le)));
    }
