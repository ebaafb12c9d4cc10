-- How many dates of a clock stand up to a time, and below it.
use Rattle.std.proofs.Common.{◌≡◌, ℕ, zero, suc, ◌+◌, ◌*◌, ◌<◌, ◌≤◌, ◌↔◌, Bool, true, false, cond, map, ap, refl, sym, ◌∙◌, subst, inl, inr, arith}
use Rattle.std.specs.Prelude.{nat_le}
use Rattle.std.specs.List.{count_by, range_with_len}
use Rattle.std.proofs.lemmas.Bool.{cases_lt, eqb-false, eqb-true, le-leb, leb-true}
use Rattle.std.proofs.lemmas.List.Sums.{sum_by-cons}
use Rattle.std.proofs.Math.Nat.{suc-mul}
use Rattle.psy_clock.specs.declared.clock.Clock.{Clock}
use Rattle.psy_clock.specs.Dates.{IsClock, count, count_below, date}
use Rattle.psy_history.specs.Lines.{is_date}

-- ---- by the times

one_more : (a b : Bool) → (a ≡ true → b ≡ true) → cond {A = ℕ} a 1 0 ≤ cond {A = ℕ} b 1 0
one_more false b h = omega arith
one_more true b h = subst (λ c. 1 ≤ cond {A = ℕ} c 1 0) (sym (h refl)) (omega arith)

module _ (p q : ℕ → Bool) (weaker : (x : ℕ) → p x ≡ true → q x ≡ true) (f : ℕ → ℕ) where
  more_pass : (a n m : ℕ) → n ≤ m → count_by p (map f (range_with_len a n)) ≤ count_by q (map f (range_with_len a m))
  more_pass a zero m l = omega arith
  more_pass a (suc n) zero l = absurd (omega (arith, l))
  more_pass a (suc n) (suc m) l =
      let rest = more_pass (a + 1) n m (omega (arith, l)) in
      let first = one_more (p (f a)) (q (f a)) (weaker (f a)) in
      omega (arith, rest, first, sum_by-cons (λ x. cond {A = ℕ} (p x) 1 0) (f a) (map f (range_with_len (a + 1) n)), sum_by-cons (λ x. cond {A = ℕ} (q x) 1 0) (f a) (map f (range_with_len (a + 1) m)))

-- Up to a later time a clock has no fewer dates.
pub count_rises : (c : Clock) (t u : ℕ) → t ≤ u → count c t ≤ count c u
count_rises c t u l =
    more_pass (λ d. nat_le d t) (λ d. nat_le d u) (λ d h. let early = leb-true d t h in le-leb d u (omega (arith, early, l))) (date c) 0 (t + 1) (u + 1) (omega (arith, l))

-- ---- by the numbers

-- Dates are counted by their numbers.
pub record AreCounted : Type 0 where
  pub upto : (c : Clock) (t i : ℕ) → IsClock c → (date c i ≤ t) ↔ (i < count c t)
  pub below : (c : Clock) (t i : ℕ) → IsClock c → (date c i < t) ↔ (i < count_below c t)

no_more : (a b : ℕ) → ((i : ℕ) → i < a → i < b) → a ≤ b
no_more a b all = elim (cases_lt b a) [
  | inl more ↦ absurd (omega (arith, all b more))
  | inr few ↦ few
]

module _ (counted : AreCounted) (c : Clock) (is : IsClock c) where
  -- Below the next tick stand those up to this one.
  pub below_next : (t : ℕ) → count_below c (suc t) ≡ count c t
  below_next t =
      let few = no_more (count_below c (suc t)) (count c t) (λ i l. (counted.upto c t i is).0 (omega (arith, (counted.below c (suc t) i is).1 l))) in
      let many = no_more (count c t) (count_below c (suc t)) (λ i l. (counted.below c (suc t) i is).0 (omega (arith, (counted.upto c t i is).1 l))) in
      omega (arith, few, many)

  date_rises : (i : ℕ) → date c i < date c (suc i)
  date_rises i = (let e : suc i * c.period ≡ i * c.period + c.period = suc-mul i c.period in omega (arith, is.first, e))

  -- A date's number is how many stand below it.
  pub date_is : (t : ℕ) → is_date c t ≡ true → date c (count_below c t) ≡ t
  date_is t d =
      let same : count_below c t ≡ count_below c t + 0 = omega arith in
      ap (date c) same ∙ eqb-true (date c (count_below c t + 0)) t d

  -- At a date one more is counted than below it, and at any other time none.
  pub count_at_date : (t : ℕ) → is_date c t ≡ true → count c t ≡ suc (count_below c t)
  count_at_date t d =
      let here : date c (count_below c t) ≡ t = date_is t d in
      let some : count_below c t < count c t = (counted.upto c t (count_below c t) is).0 (omega (arith, here)) in
      let few : count c t ≤ suc (count_below c t) = elim (cases_lt (suc (count_below c t)) (count c t)) [
        | inl more ↦ absurd (omega (arith, (counted.upto c t (suc (count_below c t)) is).1 more, date_rises (count_below c t), here))
        | inr few ↦ few
      ] in
      omega (arith, some, few)

  pub count_elsewhere : (t : ℕ) → is_date c t ≡ false → count c t ≡ count_below c t
  count_elsewhere t d =
      let same : count_below c t + 0 ≡ count_below c t = omega arith in
      let other : date c (count_below c t) ≡ t → ⊥ = λ e. eqb-false (date c (count_below c t + 0)) t d (ap (date c) same ∙ e) in
      let few : count c t ≤ count_below c t = elim (cases_lt (count_below c t) (count c t)) [
        | inl more ↦ (
            let early : date c (count_below c t) ≤ t = (counted.upto c t (count_below c t) is).1 more in
            let later : date c (count_below c t) < t = omega (arith, early, other) in
            absurd (omega (arith, (counted.below c t (count_below c t) is).0 later)))
        | inr few ↦ few
      ] in
      let many = no_more (count_below c t) (count c t) (λ i l. (counted.upto c t i is).0 (omega (arith, (counted.below c t i is).1 l))) in
      omega (arith, few, many)
