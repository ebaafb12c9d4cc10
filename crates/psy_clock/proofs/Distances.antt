-- How far from a time its dates lie, and that they come again period by period.
use Rattle.std.proofs.Common.{◌≡◌, ℕ, ◌+◌, ◌-◌, ◌*◌, ◌<◌, ◌≤◌, ◌↔◌, refl, sym, ap, zero, suc, ◌∙◌, inl, inr, arith}
use Rattle.std.proofs.lemmas.Bool.Decides.{leb_tells}
use Rattle.std.proofs.Math.Nat.{suc-mul, add-mul, mul-le-mul_right}
use Rattle.psy_clock.specs.declared.clock.Clock.{Clock}
use Rattle.psy_clock.specs.Dates.{IsClock, date, count, count_below, after_date, from_date}
use Rattle.psy_clock.proofs.Counts.{count_is, date_counted, date_counted_below, count_below-zero}

-- Date number i + n stands n periods behind date number i.
date-later : (c : Clock) (i n : ℕ) → date c (i + n) ≡ date c i + n * c.period
date-later c i n = let e : (i + n) * c.period ≡ i * c.period + n * c.period = add-mul i n c.period in omega arith

-- Date number k - 1 stands within k periods from 0.
first-dates : (c : Clock) (k : ℕ) → IsClock c → date c k < (k + 1) * c.period
first-dates c k h = let e : (k + 1) * c.period ≡ k * c.period + 1 * c.period = add-mul k 1 c.period in omega (arith, h.first)

pub after-late : (c : Clock) (t k : ℕ) → IsClock c → 1 ≤ k → t < after_date c t k
after-late c t k h some = elim (leb_tells (after_date c t k) t) [
  | inl l ↦ (let n : count c t + (k - 1) < count c t = (date_counted c t (count c t + (k - 1)) h).0 l.1 in omega arith)
  | inr l ↦ l.1
]

near_by : (c : Clock) (t k n : ℕ) → IsClock c → 1 ≤ k → count c t ≡ n → date c (n + (k - 1)) ≤ t + k * c.period
near_by c t k zero h some e =
    let f : date c (k - 1) < (k - 1 + 1) * c.period = first-dates c (k - 1) h in
    let s : (k - 1 + 1) * c.period ≡ k * c.period = ap (λ m. m * c.period) (omega (arith, some)) in
    let same : date c (0 + (k - 1)) ≡ date c (k - 1) = ap (date c) (omega arith) in
    omega (arith, f, s, same)
near_by c t k (suc n) h some e =
    let last : date c n ≤ t = (date_counted c t n h).1 (omega (arith, e)) in
    let same : date c (suc n + (k - 1)) ≡ date c (n + k) = ap (date c) (omega (arith, some)) in
    omega (arith, last, same, date-later c n k)

pub after-near : (c : Clock) (t k : ℕ) → IsClock c → 1 ≤ k → after_date c t k ≤ t + k * c.period
after-near c t k h some = near_by c t k (count c t) h some refl

pub from-late : (c : Clock) (t k : ℕ) → IsClock c → t ≤ from_date c t k
from-late c t k h = elim (leb_tells t (from_date c t k)) [
  | inl l ↦ l.1
  | inr l ↦ (let n : count_below c t + k < count_below c t = (date_counted_below c t (count_below c t + k) h).0 l.1 in omega arith)
]

from_near_by : (c : Clock) (t k n : ℕ) → IsClock c → count_below c t ≡ n → date c (n + k) < t + (k + 1) * c.period
from_near_by c t k zero h e =
    let f : date c k < (k + 1) * c.period = first-dates c k h in
    let same : date c (0 + k) ≡ date c k = ap (date c) (omega arith) in
    omega (arith, f, same)
from_near_by c t k (suc n) h e =
    let last : date c n < t = (date_counted_below c t n h).1 (omega (arith, e)) in
    let same : date c (suc n + k) ≡ date c (n + (k + 1)) = ap (date c) (omega arith) in
    omega (arith, last, same, date-later c n (k + 1))

pub from-near : (c : Clock) (t k : ℕ) → IsClock c → from_date c t k < t + (k + 1) * c.period
from-near c t k h = from_near_by c t k (count_below c t) h refl

counted-later : (c : Clock) (t n i : ℕ) → IsClock c → i < count c t + n → date c i ≤ t + n * c.period
counted-later c t n i h l = elim (leb_tells n i) [
  | inl m ↦ (let early : date c (i - n) ≤ t = (date_counted c t (i - n) h).1 (omega (arith, l, m.1)) in
      let same : date c i ≡ date c (i - n + n) = ap (date c) (omega (arith, m.1)) in
      omega (arith, early, same, date-later c (i - n) n))
  | inr m ↦ (let f : date c i < (i + 1) * c.period = first-dates c i h in
      let few : (i + 1) * c.period ≤ n * c.period = mul-le-mul_right c.period (omega (arith, m.1)) in
      omega (arith, f, few))
]

past-later : (c : Clock) (t n i : ℕ) → IsClock c → count c t + n ≤ i → t + n * c.period < date c i
past-later c t n i h l =
    let late : t < date c (i - n) = elim (leb_tells (date c (i - n)) t) [
      | inl m ↦ (let few : i - n < count c t = (date_counted c t (i - n) h).0 m.1 in omega (arith, few, l))
      | inr m ↦ m.1
    ] in
    let same : date c i ≡ date c (i - n + n) = ap (date c) (omega (arith, l)) in
    omega (arith, late, same, date-later c (i - n) n)

-- n periods later n dates more are counted.
count-later : (c : Clock) (t n : ℕ) → IsClock c → count c (t + n * c.period) ≡ count c t + n
count-later c t n h = count_is c (t + n * c.period) (count c t + n) h (λ i. counted-later c t n i h) (λ i. past-later c t n i h)

pub after-again : (c : Clock) (t k n : ℕ) → IsClock c → after_date c (t + n * c.period) k ≡ after_date c t k + n * c.period
after-again c t k n h =
    let same : count c (t + n * c.period) + (k - 1) ≡ count c t + (k - 1) + n = omega (arith, count-later c t n h) in
    ap (date c) same ∙ date-later c (count c t + (k - 1)) n
