-- What a period shares with the cycle of an agent, point by point.
use Rattle.std.proofs.Common.{◌≡◌, ℕ, ◌+◌, ◌-◌, ◌/◌, ◌*◌, ◌<◌, ◌≤◌, List, [], ◌∷◌, ◌++◌, map, take, drop, length, get_or, refl, ap, subst, ◌∙◌, arith, length-append, length-drop}
use Rattle.std.specs.Int.{IsGcd, ◌∣◌}
use Rattle.std.specs.List.{All}
use Rattle.std.proofs.Math.Nat.{one-dvd}
use Rattle.std.proofs.lemmas.Nat.Gcd.{dvd_trans, dvd_antisymm}
use Rattle.std.proofs.lemmas.List.{map_more, get_or-drop, get_or_append_left, get_or_push, take_all}
use Rattle.std.proofs.lemmas.List.Elements.{All-nil, All-push, All-get_or}
use Rattle.psy_clock.specs.declared.clock.Clock.{Clock}
use Rattle.psy_clock.specs.Dates.{IsClock}
use Rattle.psy_tree.specs.declared.unit.Point.{Point}
use Rattle.psy_meaning.specs.Graph.{IsLeastCommonMultiple, IsCycle}
use Rattle.psy_sizes.specs.Windows.{timing_by}
use Rattle.psy_graph.proofs.lemmas.Cycles.{IsJoined, least_nil, least_push, least_same}
use Rattle.psy_sizes.proofs.Multiples.{gcd_exists, gcd_some, joined_is, shared_joined}

-- ---- what a period shares with it

-- The numbers have a least common multiple, and this is what the period shares with it.
pub record Shares (numbers : List ℕ) (period shared : ℕ) : Type 0 where
  pub multiple : ℕ
  pub least : IsLeastCommonMultiple numbers multiple
  pub some : 1 ≤ multiple
  pub is : IsGcd multiple period shared

pub shares_nil : (period : ℕ) → Shares [] period 1
shares_nil period = record { multiple = 1; least = least_nil; some = omega arith; is = (one-dvd 1, one-dvd period, λ d l r. l) }

pub shares_some : (numbers : List ℕ) (period shared : ℕ) → Shares numbers period shared → 1 ≤ shared
shares_some numbers period shared h = gcd_some h.multiple period shared h.some h.is

pub shares_more : (numbers : List ℕ) (period shared own common divisor : ℕ) → 1 ≤ period → 1 ≤ own → Shares numbers period shared → IsGcd own period common → IsGcd shared common divisor →
    Shares (numbers ++ own ∷ []) period (shared / divisor * common)
shares_more numbers period shared own common divisor some lo h of_own between =
    let (g, is) = gcd_exists h.multiple own in
    let join : IsJoined h.multiple own (h.multiple / g * own) = joined_is h.multiple own g h.some lo is in
    let small : IsJoined shared common (shared / divisor * common) = joined_is shared common divisor (shares_some numbers period shared h) (gcd_some own period common lo of_own) between in
    record {
      multiple = h.multiple / g * own;
      least = least_push own h.multiple (h.multiple / g * own) numbers h.least join;
      some = join.some;
      is = shared_joined h.multiple own period shared common (h.multiple / g * own) (shared / divisor * common) h.some lo some h.is of_own join small;
    }

-- ---- the periods of an agent's points

-- The point of no number
abbrev pub no_point : Point
no_point = record { count = 0; clock = 0; budget = 0 }

abbrev pub no_clock : Clock
no_clock = record { period = 1; first = 0 }

-- The period of the clock that a point names
abbrev pub period_of : List Clock → Point → ℕ
period_of clocks point = (get_or clocks point.clock no_clock).period

-- The periods of the points from 1 on and before one
abbrev pub periods_before : List Clock → List Point → ℕ → List ℕ
periods_before clocks points at = map (period_of clocks) (take (at - 1) (drop 1 points))

pub periods_more : (clocks : List Clock) (points : List Point) (at : ℕ) → 1 ≤ at → at < length points →
    periods_before clocks points (at + 1) ≡ periods_before clocks points at ++ period_of clocks (get_or points at no_point) ∷ []
periods_more clocks points at some h =
    let one : at + 1 - 1 ≡ at - 1 + 1 = omega (arith, some) in
    let two : 1 + (at - 1) ≡ at = omega (arith, some) in
    ap (λ n. map (period_of clocks) (take n (drop 1 points))) one
    ∙ map_more (period_of clocks) (drop 1 points) (at - 1) no_point (omega (arith, h, some, length-drop 1 points))
    ∙ ap (λ p. periods_before clocks points at ++ period_of clocks p ∷ []) (get_or-drop 1 points (at - 1) no_point ∙ ap (λ n. get_or points n no_point) two)

pub own_some : (clocks : List Clock) (points : List Point) (at : ℕ) → All IsClock clocks → All (λ point. point.clock < length clocks) points → at < length points → 1 ≤ period_of clocks (get_or points at no_point)
own_some clocks points at lawful named h =
    let its : IsClock (get_or clocks (get_or points at no_point).clock no_clock) = All-get_or IsClock clocks (get_or points at no_point).clock no_clock (named at no_point h) lawful in
    omega (arith, its.first)

pub shared_by : (clocks : List Clock) (points : List Point) (at period shared : ℕ) → length points ≤ at → Shares (periods_before clocks points at) period shared →
    (cycle : ℕ) → IsCycle (timing_by clocks points) cycle → (1 ≤ cycle) × IsGcd cycle period shared
shared_by clocks points at period shared past h cycle is =
    let all : take (at - 1) (drop 1 points) ≡ drop 1 points = take_all (at - 1) (drop 1 points) (omega (arith, past, length-drop 1 points)) in
    let its : IsLeastCommonMultiple (map (period_of clocks) (drop 1 points)) h.multiple = subst (λ ps. IsLeastCommonMultiple (map (period_of clocks) ps) h.multiple) all h.least in
    let same : h.multiple ≡ cycle = least_same (map (period_of clocks) (drop 1 points)) h.multiple cycle its is in
    subst (λ n. (1 ≤ n) × IsGcd n period shared) same (h.some, h.is)
