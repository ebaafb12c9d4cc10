-- Actions from one point whose dates differ by a multiple of the cycle are due and end alike.
use Rattle.std.proofs.Common.{◌≡◌, ℕ, ◌+◌, ◌-◌, ◌*◌, ◌/◌, ◌%◌, ◌<◌, ◌≤◌, List, [], ◌∷◌, All, map, drop, length, get_or, sym, ap, subst, ◌∙◌, arith}
use Rattle.std.specs.Int.{◌∣◌}
use Rattle.std.specs.List.{Contains}
use Rattle.std.proofs.Math.Nat.{mul_assoc, div-add-mod', add-mul-mod_self_right, div-mul_cancel, add_comm, mul-le-mul}
use Rattle.std.proofs.lemmas.List.{get_or-map, get_or-drop, length-drop, length-map}
use Rattle.std.proofs.lemmas.List.Elements.{All-head, All-tail, All-weaker, All-contains_itself}
use Rattle.psy_clock.specs.declared.clock.Clock.{Clock}
use Rattle.psy_clock.specs.Dates.{IsClock, after_date}
use Rattle.psy_tree.specs.declared.unit.Point.{Point}
use Rattle.psy_meaning.specs.Timing.{Timing, point_at, clock_at, following, end_date, least, deadline}
use Rattle.psy_meaning.specs.Graph.{periods}
use Rattle.psy_graph.specs.Graphs.{IsTimed}
use Rattle.psy_graph.specs.Steps.{STEP, cycle_of}
use Rattle.psy_graph.proofs.Periods.{period_of, clock_lawful, cycle_is}

-- The dates of a clock come again period by period.
abbrev pub ComesAgain : Type 0
ComesAgain = (c : Clock) (t k n : ℕ) → IsClock c → after_date c (t + n * c.period) k ≡ after_date c t k + n * c.period

-- The period of each `advance`'s clock divides the cycle.
period_divides : (timing : Timing) → IsTimed timing → (to : ℕ) → 1 ≤ to → to < length timing.points → period_of timing (point_at timing to) ∣ cycle_of timing
period_divides timing timed to some h =
    let no : Point = record { count = 1; clock = 0; budget = 0 } in
    let points = timing.points in
    let l : to - 1 < length (drop 1 points) = omega (arith, length-drop 1 points, some, h) in
    let at : get_or (periods timing) (to - 1) 0 ≡ period_of timing (point_at timing to) =
    get_or-map (period_of timing) (drop 1 points) (to - 1) no 0 l ∙ ap (period_of timing) (get_or-drop 1 points (to - 1) no ∙ ap (λ n. get_or points n no) (omega (arith, some))) in
    let all = (cycle_is timing timed).common (to - 1) 0 (omega (arith, l, length-map (drop 1 points) (period_of timing))) in
    subst (λ n. n ∣ cycle_of timing) at all

pub end_again : ComesAgain → (timing : Timing) → IsTimed timing → (start to n : ℕ) → 1 ≤ to → to < length timing.points → end_date timing (start + n * cycle_of timing) to ≡ end_date timing start to + n * cycle_of timing
end_again again timing timed start to n some h =
    let clock = clock_at timing (point_at timing to).clock in
    let period = clock.period in
    let q = cycle_of timing / period in
    let whole : q * period ≡ cycle_of timing = div-mul_cancel period (period_divides timing timed to some h) in
    let turns : n * q * period ≡ n * cycle_of timing = mul_assoc n q period ∙ ap (λ m. n * m) whole in
    let count = (point_at timing to).count in
    let e : after_date clock (start + n * q * period) count ≡ after_date clock start count + n * q * period = again clock start count (n * q) (clock_lawful timing timed to h) in
    ap (λ m. after_date clock (start + m) count) (sym turns) ∙ e ∙ ap (λ m. after_date clock start count + m) turns

-- A date is its phase and some cycles.
pub phase_and_cycles : (cycle date : ℕ) → date ≡ date % cycle + date / cycle * cycle
phase_and_cycles cycle date = sym (div-add-mod' date cycle) ∙ add_comm (date / cycle * cycle) (date % cycle)

pub end_of_phase : ComesAgain → (timing : Timing) → IsTimed timing → (start to : ℕ) → 1 ≤ to → to < length timing.points →
    end_date timing start to ≡ end_date timing (start % cycle_of timing) to + start / cycle_of timing * cycle_of timing
end_of_phase again timing timed start to some h =
    ap (λ date. end_date timing date to) (phase_and_cycles (cycle_of timing) start) ∙ end_again again timing timed (start % cycle_of timing) to (start / cycle_of timing) some h

-- The phase in which an action ends is told by that in which it starts.
pub same_phase : ComesAgain → (timing : Timing) → IsTimed timing → (start to : ℕ) → 1 ≤ to → to < length timing.points →
    end_date timing start to % cycle_of timing ≡ end_date timing (start % cycle_of timing) to % cycle_of timing
same_phase again timing timed start to some h =
    let cycle = cycle_of timing in
    ap (λ date. date % cycle) (end_of_phase again timing timed start to some h) ∙ add-mul-mod_self_right (end_date timing (start % cycle) to) (start / cycle) cycle

-- Where each number is later by as much, the least is.
least_later : (f g : ℕ → ℕ) (k : ℕ) (xs : List ℕ) → 1 ≤ length xs → All (λ x. f x ≡ g x + k) xs → least (map f xs) ≡ least (map g xs) + k
least_later f g k [] some all = absurd (omega (arith, some))
least_later f g k (x ∷ []) some all = All-head (λ x. f x ≡ g x + k) x [] all
least_later f g k (x ∷ y ∷ xs) some all =
    let head : f x ≡ g x + k = All-head (λ x. f x ≡ g x + k) x (y ∷ xs) all in
    let rest : least (map f (y ∷ xs)) ≡ least (map g (y ∷ xs)) + k = least_later f g k (y ∷ xs) (omega arith) (All-tail (λ x. f x ≡ g x + k) x (y ∷ xs) all) in
    omega (arith, head, rest)

pub deadline_of_phase : ComesAgain → (timing : Timing) → IsTimed timing → (point start : ℕ) → point < length timing.points →
    deadline timing point start ≡ deadline timing point (start % cycle_of timing) + start / cycle_of timing * cycle_of timing
deadline_of_phase again timing timed point start h =
    let cycle = cycle_of timing in
    let later : (to : ℕ) → Contains (following timing point) to → end_date timing start to ≡ end_date timing (start % cycle) to + start / cycle * cycle =
    λ to c. (let w = timed.within point to c in end_of_phase again timing timed start to w.0 w.1) in
    least_later (end_date timing start) (end_date timing (start % cycle)) (start / cycle * cycle) (following timing point) (timed.some point h)
    (All-weaker (Contains (following timing point)) (λ to. end_date timing start to ≡ end_date timing (start % cycle) to + start / cycle * cycle) later (following timing point) (All-contains_itself (following timing point)))

-- So many dates of a clock lie within so many periods.
abbrev pub ComesNear : Type 0
ComesNear = (c : Clock) (t k : ℕ) → IsClock c → 1 ≤ k → after_date c t k ≤ t + k * c.period

pub end_near : ComesNear → (timing : Timing) → IsTimed timing → (start to : ℕ) → 1 ≤ to → to < length timing.points → end_date timing start to ≤ start + STEP
end_near near timing timed start to some h =
    let clock = clock_at timing (point_at timing to).clock in
    let lawful = clock_lawful timing timed to h in
    let count = timed.counts to some h in
    let l : end_date timing start to ≤ start + (point_at timing to).count * clock.period = near clock start (point_at timing to).count lawful count.0 in
    let m : (point_at timing to).count * clock.period ≤ STEP = mul-le-mul count.1 lawful.period in
    omega (arith, l, m)
