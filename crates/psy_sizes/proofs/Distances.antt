-- At which distances behind the dates of a phase the dates of a clock stand, and how many of them before a later date.
use Rattle.std.proofs.Common.{◌≡◌, ℕ, ◌+◌, ◌-◌, ◌*◌, ◌/◌, ◌%◌, ◌<◌, ◌≤◌, ◌↔◌, refl, ap, subst, ◌∙◌, inl, inr, arith}
use Rattle.std.specs.Int.{IsGcd, ◌∣◌}
use Rattle.std.proofs.Math.Nat.{mod-lt, mod-eq_of_lt, mod-add-mod, mod-eq-zero_of_dvd, div-add-mod', mul-add-mod_self_right, div-mul_cancel, div-mul-le_self, le-div_iff_mul-le, dvd-mul_left, dvd-mul_left_of_dvd, dvd-add_iff_left}
use Rattle.std.proofs.lemmas.Bool.{cases_lt}
use Rattle.std.proofs.lemmas.Bool.Decides.{leb_tells}
use Rattle.psy_clock.specs.declared.clock.Clock.{Clock}
use Rattle.psy_clock.specs.Dates.{IsClock, date, count}
use Rattle.psy_base.specs.Extremes.{IsGreatest}
use Rattle.psy_meaning.specs.RingSizes.{dates_between}
use Rattle.psy_sizes.specs.Windows.{HasDates}
use Rattle.psy_sizes.proofs.Multiples.{reaches, gcd_some}

-- ---- remainders

-- How far the next number behind this one stands that another divides
abbrev pub gap : ℕ → ℕ → ℕ
gap g w = g - w % g

pub gap_reaches : (g w : ℕ) → 1 ≤ g → (1 ≤ gap g w) × (gap g w ≤ g) × (g ∣ w + gap g w)
gap_reaches g w some =
    let parts : w / g * g + w % g ≡ w = div-add-mod' w g in
    let less : w % g < g = mod-lt w some in
    let whole : (w / g + 1) * g ≡ w + gap g w = omega arith in
    (omega arith, omega arith, subst (λ n. g ∣ n) whole (dvd-mul_left g (w / g + 1)))

pub gap_least : (g w d : ℕ) → 1 ≤ g → 1 ≤ d → g ∣ w + d → gap g w ≤ d
gap_least g w d some far h =
    let parts : w / g * g + w % g ≡ w = div-add-mod' w g in
    elim (cases_lt (w % g + d) g) [
      | inl l ↦ (
          let none : (w + d) % g ≡ 0 = mod-eq-zero_of_dvd g h in
          let sum : w + d ≡ w / g * g + (w % g + d) = omega arith in
          let left : (w + d) % g ≡ w % g + d = ap (λ n. n % g) sum ∙ mul-add-mod_self_right (w / g) g (w % g + d) ∙ mod-eq_of_lt l in
          absurd (omega arith)
          )
      | inr l ↦ omega arith
    ]

-- ---- dates

module _ (c : Clock) (lawful : IsClock c) (counted : (t i : ℕ) → (date c i ≤ t) ↔ (i < count c t)) where
  -- The first date behind a time
  next_date : ℕ → ℕ
  next_date t = date c (count c t)

  past : (t i : ℕ) → count c t ≤ i → t < date c i
  past t i l = elim (leb_tells (date c i) t) [
    | inl m ↦ (let early : i < count c t = (counted t i).0 m.1 in absurd (omega arith))
    | inr m ↦ m.1
  ]

  later : (i n : ℕ) → date c (i + n) ≡ date c i + n * c.period
  later i n = omega arith

  -- Where so many dates stand between, the last of them is before the later time.
  pub fit : (t upto n : ℕ) → n + 1 ≤ dates_between c t upto → date c (count c t) + n * c.period ≤ upto
  fit t upto n h =
      let last : date c (count c t + n) ≤ upto = (counted upto (count c t + n)).1 (omega (arith, h)) in
      omega (arith, last, later (count c t) n)

  -- Where a date stands so far behind a time, and the last of so many more before a later time, that many are between.
  pub stand : (t upto i n : ℕ) → t < date c i → date c i + n * c.period ≤ upto → n + 1 ≤ dates_between c t upto
  stand t upto i n h l =
      let before : count c t ≤ i = elim (cases_lt i (count c t)) [
        | inl m ↦ (let early : date c i ≤ t = (counted t i).1 m in absurd (omega arith))
        | inr m ↦ m
      ] in
      let last : i + n < count c upto = (counted upto (i + n)).0 (omega (arith, later i n, l)) in
      omega (arith, before, last)

  -- ---- phases

  module _ (cycle phase shared : ℕ) (h : IsGcd cycle c.period shared) (inner : phase < cycle) where
    some_shared : 1 ≤ shared
    some_shared = gcd_some cycle c.period shared (omega (arith, inner)) h

    -- From a date of the phase on, the clock's dates stand at distances of one remainder by what is shared.
    alike : (t i d : ℕ) → t % cycle ≡ phase → t + d ≡ date c i → shared ∣ phase + (c.period - c.first) + d
    alike t i d at far =
        let parts : t / cycle * cycle + t % cycle ≡ t = div-add-mod' t cycle in
        let first : c.first < c.period = lawful.first in
        let sum : (i + 1) * c.period ≡ phase + (c.period - c.first) + d + t / cycle * cycle = omega arith in
        let left : shared ∣ t / cycle * cycle = dvd-mul_left_of_dvd shared h.0 (t / cycle) in
        let all : shared ∣ phase + (c.period - c.first) + d + t / cycle * cycle = subst (λ n. shared ∣ n) sum (dvd-mul_left_of_dvd shared h.1 (i + 1)) in
        (dvd-add_iff_left shared left).1 all

    -- Each such distance is met from some date of the phase.
    met : (d : ℕ) → 1 ≤ d → shared ∣ phase + (c.period - c.first) + d → (t i : ℕ) × (t % cycle ≡ phase) × (t + d ≡ date c i)
    met d far into =
        let first : c.first < c.period = lawful.first in
        let w = phase + (c.period - c.first) + d in
        let (u, v, e) = reaches c.period cycle shared (omega arith) (omega (arith, inner)) (h.1, h.0, λ n p q. h.2 n q p) in
        let k = w / shared in
        let whole : k * shared ≡ w = div-mul_cancel shared into in
        let many : k * (u * c.period) ≡ k * (v * cycle + shared) = ap (λ n. k * n) e in
        let sum : k * u * c.period ≡ k * v * cycle + w = omega arith in
        let some : 1 ≤ k * u = elim (cases_lt 0 (k * u)) [
          | inl l ↦ l
          | inr l ↦ (let none : k * u * c.period ≡ 0 * c.period = ap (λ n. n * c.period) (omega (arith, l)) in absurd (omega arith))
        ] in
        let one_less : k * u ≡ k * u - 1 + 1 = omega (arith, some) in
        let less : k * u * c.period ≡ (k * u - 1 + 1) * c.period = ap (λ n. n * c.period) one_less in
        (k * v * cycle + phase, k * u - 1, mul-add-mod_self_right (k * v) cycle phase ∙ mod-eq_of_lt inner, omega arith)

    abbrev pub nearest : ℕ
    nearest = gap shared (phase + (c.period - c.first))

    -- How many dates may stand behind a date of the phase, and before the date so many ticks later
    bounded : (t due m : ℕ) → t % cycle ≡ phase → m + 1 ≤ dates_between c t (t + due - 1) → (nearest < due) × (m ≤ (due - 1 - nearest) / c.period)
    bounded t due m at h =
        let i = count c t in
        let first : c.first < c.period = lawful.first in
        let behind : t < date c i = past t i (omega arith) in
        let into : shared ∣ phase + (c.period - c.first) + (date c i - t) = alike t i (date c i - t) at (omega arith) in
        let near : nearest ≤ date c i - t = gap_least shared (phase + (c.period - c.first)) (date c i - t) some_shared (omega arith) into in
        let last : date c i + m * c.period ≤ t + due - 1 = fit t (t + due - 1) m h in
        (omega arith, (le-div_iff_mul-le {k = c.period} {x = m} {y = due - 1 - nearest} (omega arith)).1 (omega arith))

    pub most_dates : (due : ℕ) → nearest < due → IsGreatest (HasDates c cycle phase due) ((due - 1 - nearest) / c.period + 1)
    most_dates due far =
        let q = (due - 1 - nearest) / c.period in
        let (lo, hi, into) = gap_reaches shared (phase + (c.period - c.first)) some_shared in
        let (t, i, at, sum) = met nearest lo into in
        let n = dates_between c t (t + due - 1) in
        let times : q * c.period ≤ due - 1 - nearest = div-mul-le_self (due - 1 - nearest) c.period in
        let enough : q + 1 ≤ n = stand t (t + due - 1) i q (omega arith) (omega arith) in
        let few : n - 1 ≤ q = (bounded t due (n - 1) at (omega arith)).1 in
        record {
          one = (t, at, omega (arith, enough, few));
          most = λ m (other, phased, is). elim (cases_lt 0 m) [
            | inl l ↦ (let less : m - 1 ≤ q = (bounded other due (m - 1) phased (omega (arith, is, l))).1 in omega arith)
            | inr l ↦ omega (arith, l)
          ];
        }

    pub no_dates : (due : ℕ) → due ≤ nearest → IsGreatest (HasDates c cycle phase due) 0
    no_dates due near =
        let none : (t n : ℕ) → t % cycle ≡ phase → n ≡ dates_between c t (t + due - 1) → n ≤ 0 = λ t n at is. elim (cases_lt 0 n) [
          | inl l ↦ (let far : nearest < due = (bounded t due (n - 1) at (omega (arith, is, l))).0 in absurd (omega arith))
          | inr l ↦ l
        ] in
        let at : phase % cycle ≡ phase = mod-eq_of_lt inner in
        let here : dates_between c phase (phase + due - 1) ≤ 0 = none phase (dates_between c phase (phase + due - 1)) at refl in
        record {
          one = (phase, at, omega (arith, here));
          most = λ m (other, phased, is). none other m phased is;
        }

gap_by : (g phase period first : ℕ) → first < period → g - (phase % g + period - first) % g ≡ gap g (phase + (period - first))
gap_by g phase period first l =
    let same : phase % g + period - first ≡ phase % g + (period - first) = omega (arith, l) in
    ap (λ n. g - n % g) same ∙ ap (λ n. g - n) (mod-add-mod phase g (period - first))

-- The nearest distance as the code finds it
pub gap_found : (g shared p period f first phase : ℕ) → g ≡ shared → p ≡ period → f ≡ first → first < period → g - (phase % g + p - f) % g ≡ gap shared (phase + (period - first))
gap_found g shared p period f first phase is period_is first_is l =
    ap (λ n. n - (phase % n + p - f) % n) is
    ∙ ap (λ n. shared - (phase % shared + n - f) % shared) period_is
    ∙ ap (λ n. shared - (phase % shared + period - n) % shared) first_is
    ∙ gap_by shared phase period first l
