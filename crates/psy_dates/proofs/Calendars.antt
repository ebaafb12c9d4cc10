-- The next dates of clocks behind a date, from those behind the date before.
use Rattle.std.proofs.Common.{◌≡◌, ℕ, zero, suc, ◌+◌, ◌-◌, ◌*◌, ◌<◌, ◌≤◌, ◌↔◌, List, All, Some, refl, sym, ap, subst, ◌∙◌, inl, inr, arith}
use Rattle.std.specs.Prelude.{◌==◌}
use Rattle.std.proofs.lemmas.Bool.{eq-eqb, ne_eqb}
use Rattle.std.proofs.lemmas.Bool.Decides.{eqb_tells, leb_tells}
use Rattle.std.proofs.lemmas.List.Elements.{All-get_or}
use Rattle.std.proofs.lemmas.Option.{get_or_from_slice_get, slice_get_within}
use Rattle.std.proofs.Math.Nat.{suc-mul, add-mul}
use Rattle.psy_clock.specs.declared.clock.Clock.{Clock}
use Rattle.psy_clock.specs.Dates.{IsClock, after_date, count, count_below, date, from_date}
use Rattle.psy_history.specs.Lines.{is_date}
use Rattle.psy_dates.specs.Calendars.{AreNext}

-- Dates are counted by their numbers: what the law of clocks says.
abbrev pub CountsBelow : Type 0
CountsBelow = (c : Clock) (t i : ℕ) → IsClock c → (date c i < t ↔ i < count_below c t)

abbrev pub CountsTo : Type 0
CountsTo = (c : Clock) (t i : ℕ) → IsClock c → (date c i ≤ t ↔ i < count c t)

-- The first date from a time on is the one of this number.
first_is : (c : Clock) (t : ℕ) → from_date c t 0 ≡ date c (count_below c t)
first_is c t = ap (date c) (omega arith)

-- Behind a date of the clock the next one comes a period later.
pub next_at : CountsBelow → (c : Clock) → IsClock c → (t : ℕ) → from_date c t 0 ≡ t → from_date c (t + 1) 0 ≡ t + c.period
next_at below c h t at =
    let n = count_below c t in
    let m = count_below c (t + 1) in
    let is = first_is c t in
    let step : suc n * c.period ≡ n * c.period + c.period = suc-mul n c.period in
    let some : n < m = (below c (t + 1) n h).0 (omega (arith, is, at)) in
    let few : m ≤ suc n = elim (leb_tells m (suc n)) [
      | inl l ↦ l.1
      | inr l ↦ (let early : date c (suc n) < t + 1 = (below c (t + 1) (suc n) h).1 l.1 in absurd (omega (arith, early, step, is, at, h.first)))
    ] in
    let same : m + 0 ≡ suc n = omega (arith, some, few) in
    ap (date c) same ∙ omega (arith, step, is, at)

-- Else it is the same one.
pub next_later : CountsBelow → (c : Clock) → IsClock c → (t : ℕ) → t < from_date c t 0 → from_date c (t + 1) 0 ≡ from_date c t 0
next_later below c h t late =
    let n = count_below c t in
    let m = count_below c (t + 1) in
    let is = first_is c t in
    let few : m ≤ n = elim (leb_tells m n) [
      | inl l ↦ l.1
      | inr l ↦ (let early : date c n < t + 1 = (below c (t + 1) n h).1 l.1 in absurd (omega (arith, early, is, late)))
    ] in
    let some : n ≤ m = elim (leb_tells n m) [
      | inl l ↦ l.1
      | inr l ↦ (let early : date c m < t = (below c t m h).1 l.1 in let again : m < m = (below c (t + 1) m h).0 (omega (arith, early)) in absurd (omega (arith, again)))
    ] in
    let same : m + 0 ≡ n + 0 = omega (arith, some, few) in
    ap (date c) same

-- No date from a time on is before it.
pub next_late : CountsBelow → (c : Clock) → IsClock c → (t : ℕ) → t ≤ from_date c t 0
next_late below c h t = elim (leb_tells t (from_date c t 0)) [
  | inl l ↦ l.1
  | inr l ↦ (let again : count_below c t < count_below c t = (below c t (count_below c t) h).0 (omega (arith, first_is c t, l.1)) in absurd (omega (arith, again)))
]

pub next_other : CountsBelow → (c : Clock) → IsClock c → (t : ℕ) → (from_date c t 0 ≡ t → ⊥) → from_date c (t + 1) 0 ≡ from_date c t 0
next_other below c h t other = next_later below c h t (omega (arith, other, next_late below c h t))

-- A date is one of the clock where the next one behind it comes a period later.
only_at : CountsBelow → (c : Clock) → IsClock c → (t n : ℕ) → count_below c t ≡ n → from_date c t 0 ≡ t + c.period → ⊥
only_at below c h t zero is first = (let at : from_date c t 0 ≡ date c zero = first_is c t ∙ ap (date c) is in omega (arith, at, first, h.first))
only_at below c h t (suc m) is first =
    let at : from_date c t 0 ≡ date c (suc m) = first_is c t ∙ ap (date c) is in
    let step : suc m * c.period ≡ m * c.period + c.period = suc-mul m c.period in
    let early : date c m < t = (below c t m h).1 (omega (arith, is)) in
    omega (arith, at, first, step, early)

pub had_is : CountsBelow → (c : Clock) → IsClock c → (t next : ℕ) → next ≡ from_date c (t + 1) 0 → (next == t + c.period) ≡ is_date c t
had_is below c h t next is = elim (eqb_tells (from_date c t 0) t) [
  | inl at ↦ eq-eqb next (t + c.period) (is ∙ next_at below c h t at.1) ∙ sym at.0
  | inr other ↦ ne_eqb next (t + c.period) (λ e. only_at below c h t (count_below c t) refl (sym (next_other below c h t other.1) ∙ sym is ∙ e)) ∙ sym other.0
]

-- The k-th date behind a time comes so many periods behind the first one.
pub after_next : CountsTo → CountsBelow → (c : Clock) → IsClock c → (t k : ℕ) → after_date c t k ≡ from_date c (t + 1) 0 + (k - 1) * c.period
after_next to below c h t k =
    let a = count c t in
    let b = count_below c (t + 1) in
    let few : a ≤ b = elim (leb_tells a b) [
      | inl l ↦ l.1
      | inr l ↦ (let early : date c b ≤ t = (to c t b h).1 l.1 in let again : b < b = (below c (t + 1) b h).0 (omega (arith, early)) in absurd (omega (arith, again)))
    ] in
    let some : b ≤ a = elim (leb_tells b a) [
      | inl l ↦ l.1
      | inr l ↦ (let early : date c a < t + 1 = (below c (t + 1) a h).1 l.1 in let again : a < a = (to c t a h).0 (omega (arith, early)) in absurd (omega (arith, again)))
    ] in
    let same : a + (k - 1) ≡ b + (k - 1) = omega (arith, some, few) in
    let split : (b + (k - 1)) * c.period ≡ b * c.period + (k - 1) * c.period = add-mul b (k - 1) c.period in
    ap (date c) same ∙ omega (arith, split, first_is c (t + 1))

-- Where all next dates are later, those behind the time are the same.
pub all_later : CountsBelow → (clocks : List Clock) → All IsClock clocks → (t : ℕ) (nexts : List ℕ) → AreNext clocks t nexts → All (λ next. t < next) nexts → AreNext clocks (t + 1) nexts
all_later below clocks lawful t nexts are late clock known at =
    let next = are clock known at in
    let sound : IsClock known = subst IsClock (get_or_from_slice_get clocks clock known known at) (All-get_or IsClock clocks clock known (slice_get_within clocks clock known at) lawful) in
    let first = from_date known t 0 in
    let l : t < first = subst (λ n. t < n) (get_or_from_slice_get nexts clock first first next) (All-get_or (λ n. t < n) nexts clock first (slice_get_within nexts clock first next) late) in
    next ∙ ap (λ n. Some n) (sym (next_later below known sound t l))
