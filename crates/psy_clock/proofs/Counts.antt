-- How many dates of a clock stand up to a time, and the date of each number.
use Rattle.std.proofs.Common.{◌≡◌, ℕ, ◌+◌, ◌-◌, ◌*◌, ◌/◌, ◌<◌, ◌≤◌, ◌↔◌, Bool, true, false, cond, map, min, ltb, leb, refl, sym, ap, add-one, zero, suc, ◌∙◌, subst, inl, inr, arith}
use Rattle.std.specs.List.{count_by, range_with_len}
use Rattle.std.proofs.lemmas.List.Sums.{sum_by-cons, count_by-le-length}
use Rattle.std.proofs.lemmas.List.FromFn.{length-map-range_with_len}
use Rattle.std.proofs.lemmas.Bool.{lt-ltb, le-ltb, le-leb, lt-leb}
use Rattle.std.proofs.lemmas.Bool.Decides.{leb_tells}
use Rattle.std.proofs.Math.Nat.{suc-mul, le-div_iff_mul-le, mul-le-mul_right, le-mul_of_pos_right}
use Rattle.psy_clock.specs.declared.clock.Clock.{Clock}
use Rattle.psy_clock.specs.Dates.{IsClock, IsAfter, IsFrom, date, dates, count, count_below, after_date, from_date}

-- Of the things number a to a + n - 1, where those below m pass and no others.
count_front : (p : ℕ → Bool) (f : ℕ → ℕ) (m a n : ℕ) → ((i : ℕ) → i < m → p (f i) ≡ true) → ((i : ℕ) → m ≤ i → p (f i) ≡ false) → count_by p (map f (range_with_len a n)) ≡ min m (a + n) - a
count_front p f m a zero passes fails = omega arith
count_front p f m a (suc n) passes fails =
    let more : count_by p (map f (range_with_len (a + 1) n)) ≡ min m (a + 1 + n) - (a + 1) = count_front p f m (a + 1) n passes fails in
    let split : count_by p (map f (range_with_len a (suc n))) ≡ cond {A = ℕ} (p (f a)) 1 0 + count_by p (map f (range_with_len (a + 1) n)) = sum_by-cons (λ x. cond (p x) 1 0) (f a) (map f (range_with_len (a + 1) n)) in
    elim (leb_tells m a) [
      | inl h ↦ (let l : m ≤ a = h.1 in let e : cond {A = ℕ} (p (f a)) 1 0 ≡ 0 = ap (λ (b : Bool). cond {A = ℕ} b 1 0) (fails a h.1) in omega arith)
      | inr h ↦ (let l : a < m = h.1 in let e : cond {A = ℕ} (p (f a)) 1 0 ≡ 1 = ap (λ (b : Bool). cond {A = ℕ} b 1 0) (passes a h.1) in omega arith)
    ]

-- Date number i stands at i or above.
date-at_least : (c : Clock) (i : ℕ) → IsClock c → i ≤ date c i
date-at_least c i h =
    let some : 0 < c.period = omega arith in
    let e : i ≤ i * c.period = le-mul_of_pos_right i some in
    omega arith

-- Dates rise with their numbers.
date-rises : (c : Clock) (i j : ℕ) → IsClock c → i < j → date c i < date c j
date-rises c i j h l =
    let e : suc i * c.period ≤ j * c.period = mul-le-mul_right c.period (omega arith) in
    let s : suc i * c.period ≡ i * c.period + c.period = suc-mul i c.period in
    omega arith

pub date-rises_or_stays : (c : Clock) (i j : ℕ) → i ≤ j → date c i ≤ date c j
date-rises_or_stays c i j l =
    let e : i * c.period ≤ j * c.period = mul-le-mul_right c.period l in
    omega arith

-- The number that divides the dates' numbers at t is the count.
pub count_is : (c : Clock) (t q : ℕ) → IsClock c → ((i : ℕ) → i < q → date c i ≤ t) → ((i : ℕ) → q ≤ i → t < date c i) → count c t ≡ q
count_is c t q h passes fails =
    let e : count c t ≡ min q (0 + (t + 1)) - 0 = count_front (λ d. leb d t) (date c) q 0 (t + 1) (λ i l. le-leb (date c i) t (passes i l)) (λ i l. lt-leb (date c i) t (fails i l)) in
    elim (leb_tells q (t + 1)) [
      | inl l ↦ omega (arith, l.1)
      | inr l ↦ (let past : date c (t + 1) ≤ t = passes (t + 1) l.1 in omega (arith, date-at_least c (t + 1) h))
    ]

count_below_is : (c : Clock) (t q : ℕ) → IsClock c → ((i : ℕ) → i < q → date c i < t) → ((i : ℕ) → q ≤ i → t ≤ date c i) → count_below c t ≡ q
count_below_is c t q h passes fails =
    let e : count_below c t ≡ min q (0 + t) - 0 = count_front (λ d. ltb d t) (date c) q 0 t (λ i l. lt-ltb (date c i) t (passes i l)) (λ i l. le-ltb (date c i) t (fails i l)) in
    elim (leb_tells q t) [
      | inl l ↦ omega (arith, l.1)
      | inr l ↦ (let past : date c t < t = passes t l.1 in omega (arith, date-at_least c t h))
    ]

pub count-early : (c : Clock) (t : ℕ) → IsClock c → t < c.first → count c t ≡ 0
count-early c t h l = count_is c t 0 h (λ i n. omega arith) (λ i n. omega arith)

pub count-late : (c : Clock) (t : ℕ) → IsClock c → c.first ≤ t → count c t ≡ (t - c.first) / c.period + 1
count-late c t h l =
    let some : 0 < c.period = omega arith in
    count_is c t ((t - c.first) / c.period + 1) h
    (λ i n. let e : i * c.period ≤ t - c.first = (le-div_iff_mul-le {k = c.period} {x = i} {y = t - c.first} some).0 (omega arith) in omega arith)
    (λ i n. elim (leb_tells (date c i) t) [
      | inl d ↦ (let e : i ≤ (t - c.first) / c.period = (le-div_iff_mul-le {k = c.period} {x = i} {y = t - c.first} some).1 (omega (arith, d.1)) in omega arith)
      | inr d ↦ d.1
    ])

-- A date is at or below t exactly where its number is below the count.
pub date_counted : (c : Clock) (t i : ℕ) → IsClock c → (date c i ≤ t) ↔ (i < count c t)
date_counted c t i h =
    let some : 0 < c.period = omega arith in
    elim (leb_tells c.first t) [
      | inl l ↦ (let e : count c t ≡ (t - c.first) / c.period + 1 = count-late c t h l.1 in
          let r : (i ≤ (t - c.first) / c.period) ↔ (i * c.period ≤ t - c.first) = le-div_iff_mul-le {k = c.period} {x = i} {y = t - c.first} some in (
            λ d. let q : i ≤ (t - c.first) / c.period = r.1 (omega arith) in omega arith,
            λ n. let q : i * c.period ≤ t - c.first = r.0 (omega arith) in omega (arith, l.1),
          ))
      | inr l ↦ (let e : count c t ≡ 0 = count-early c t h l.1 in (λ d. omega (arith, l.1), λ n. omega arith))
    ]

pub count_below-zero : (c : Clock) → count_below c 0 ≡ 0
count_below-zero c = refl

pub count_below-next : (c : Clock) (t : ℕ) → IsClock c → count_below c (t + 1) ≡ count c t
count_below-next c t h =
    count_below_is c (t + 1) (count c t) h
    (λ i l. let e : date c i ≤ t = (date_counted c t i h).1 l in omega arith)
    (λ i l. elim (leb_tells (date c i) t) [
      | inl d ↦ (let e : i < count c t = (date_counted c t i h).0 d.1 in omega arith)
      | inr d ↦ omega (arith, d.1)
    ])

pub date_counted_below : (c : Clock) (t i : ℕ) → IsClock c → (date c i < t) ↔ (i < count_below c t)
date_counted_below c zero i h = (λ d. omega arith, λ n. omega (arith, count_below-zero c))
date_counted_below c (suc t) i h =
    let e : count_below c (t + 1) ≡ count c t = count_below-next c t h in
    let s : count_below c (suc t) ≡ count c t = ap (count_below c) (sym (add-one t)) ∙ e in
    let r : (date c i ≤ t) ↔ (i < count c t) = date_counted c t i h in
    (λ d. let q : i < count c t = r.0 (omega arith) in omega arith, λ n. let q : date c i ≤ t = r.1 (omega arith) in omega arith)

-- Up to date number i there are i + 1 dates, and i below it.
pub count-date : (c : Clock) (i : ℕ) → IsClock c → count c (date c i) ≡ i + 1
count-date c i h = count_is c (date c i) (i + 1) h (λ j l. date-rises_or_stays c j i (omega arith)) (λ j l. date-rises c i j h (omega arith))

pub count_below-date : (c : Clock) (i : ℕ) → IsClock c → count_below c (date c i) ≡ i
count_below-date c i h = count_below_is c (date c i) i h (λ j l. date-rises c j i h l) (λ j l. date-rises_or_stays c i j l)

-- The k-th date above t has the number of dates up to t, and k - 1 more.
pub after_is : (c : Clock) (t k d : ℕ) → IsClock c → 1 ≤ k → IsAfter c t k d ↔ (d ≡ after_date c t k)
after_is c t k d h some = (
  λ a. let e : count c d ≡ a.0.0 + 1 = rw a.0.1 (count-date c a.0.0 h) in
      let n : a.0.0 ≡ count c t + (k - 1) = omega (arith, a.2) in
      a.0.1 ∙ ap (date c) n,
  λ e. let late : t < date c (count c t + (k - 1)) = elim (leb_tells (date c (count c t + (k - 1))) t) [
    | inl l ↦ (let n : count c t + (k - 1) < count c t = (date_counted c t (count c t + (k - 1)) h).0 l.1 in omega arith)
    | inr l ↦ l.1
  ] in
      let n : count c (date c (count c t + (k - 1))) ≡ count c t + k = count-date c (count c t + (k - 1)) h ∙ omega arith in
      let P : ℕ → Type 0 = IsAfter c t k in
      subst P (sym e) ((count c t + (k - 1), refl), late, n),
)

pub from_is : (c : Clock) (t k d : ℕ) → IsClock c → IsFrom c t k d ↔ (d ≡ from_date c t k)
from_is c t k d h = (
  λ a. let e : count_below c d ≡ a.0.0 = rw a.0.1 (count_below-date c a.0.0 h) in
      let n : a.0.0 ≡ count_below c t + k = omega (arith, a.2) in
      a.0.1 ∙ ap (date c) n,
  λ e. let late : t ≤ date c (count_below c t + k) = elim (leb_tells t (date c (count_below c t + k))) [
    | inl l ↦ l.1
    | inr l ↦ (let n : count_below c t + k < count_below c t = (date_counted_below c t (count_below c t + k) h).0 l.1 in omega arith)
  ] in
      let n : count_below c (date c (count_below c t + k)) ≡ count_below c t + k = count_below-date c (count_below c t + k) h in
      let P : ℕ → Type 0 = IsFrom c t k in
      subst P (sym e) ((count_below c t + k, refl), late, n),
)

pub count-le : (c : Clock) (t : ℕ) → count c t ≤ t + 1
count-le c t = omega (arith, count_by-le-length (λ d. leb d t) (dates c (t + 1)), length-map-range_with_len (date c) 0 (t + 1))

pub count_below-le : (c : Clock) (t : ℕ) → count_below c t ≤ t
count_below-le c t = omega (arith, count_by-le-length (λ d. ltb d t) (dates c t), length-map-range_with_len (date c) 0 t)
