-- Numbers from one on, before another, where a test goes on as it began.
use Rattle.std.proofs.Common.{◌≡◌, ◌∙◌, refl, sym, ap, subst, ℕ, zero, suc, ◌+◌, ◌-◌, ◌<◌, ◌≤◌, Bool, true, false, cond, ◌&&◌, [], ◌∷◌, ◌++◌, inl, inr, nat_le, nat_lt, arith}
use Rattle.std.specs.List.{count_by, list_all, range_with_len}
use Rattle.std.proofs.lemmas.Bool.{cases_lt, le-leb, le-ltb, lt-leb, lt-ltb}
use Rattle.std.proofs.lemmas.List.Folds.{list_all-append}
use Rattle.std.proofs.lemmas.List.Sums.{sum_by-append, sum_by-cons}
use Rattle.psy_audit.specs.Turns.{between}

-- ---- one test

-- A number comes up to none between these, so it stands on one side of all of them.
pub le_steady : (m from c to : ℕ) → from ≤ c → c < to → (from < m → to ≤ m) → nat_le m c ≡ nat_le m from
le_steady m from c to low high apart = elim (cases_lt from m) [
  | inl behind ↦ (let less : c < m = omega (arith, apart behind, high) in lt-leb m c less ∙ sym (lt-leb m from behind))
  | inr before ↦ (let less : m ≤ c = omega (arith, before, low) in le-leb m c less ∙ sym (le-leb m from before))
]

pub lt_steady : (m from c to : ℕ) → from ≤ c → c < to → (from < m → to ≤ m) → nat_lt c m ≡ nat_lt from m
lt_steady m from c to low high apart = elim (cases_lt from m) [
  | inl behind ↦ (let less : c < m = omega (arith, apart behind, high) in lt-ltb c m less ∙ sym (lt-ltb from m behind))
  | inr before ↦ (let less : m ≤ c = omega (arith, before, low) in le-ltb c m less ∙ sym (le-ltb from m before))
]

-- ---- ranges

pub range_parts : (a d e n : ℕ) → n ≡ d + e → range_with_len a n ≡ range_with_len a d ++ range_with_len (a + d) e
range_parts a zero e n is =
    let whole : n ≡ e = omega (arith, is) in
    let same : a ≡ a + 0 = omega arith in
    ap (range_with_len a) whole ∙ ap (λ k. range_with_len k e) same
range_parts a (suc d) e zero is = absurd (omega (arith, is))
range_parts a (suc d) e (suc n) is =
    let less : n ≡ d + e = omega (arith, is) in
    let same : (a + 1) + d ≡ a + suc d = omega arith in
    ap (λ ks. a ∷ ks) (range_parts (a + 1) d e n less ∙ ap (λ k. range_with_len (a + 1) d ++ range_with_len k e) same)

pub between_parts : (from mid to : ℕ) → from ≤ mid → mid ≤ to → between from to ≡ between from mid ++ between mid to
between_parts from mid to low high =
    let whole : to - from ≡ (mid - from) + (to - mid) = omega (arith, low, high) in
    let at : from + (mid - from) ≡ mid = omega (arith, low) in
    range_parts from (mid - from) (to - mid) (to - from) whole ∙ ap (λ k. between from mid ++ range_with_len k (to - mid)) at

pub between_none : (from to : ℕ) → to ≤ from → between from to ≡ []
between_none from to less = let none : to - from ≡ 0 = omega (arith, less) in ap (range_with_len from) none

module _ (p : ℕ → Bool) where
  -- ---- all of them

  all_run : (from d : ℕ) → ((c : ℕ) → from ≤ c → c < from + d → p c ≡ true) → list_all p (range_with_len from d) ≡ true
  all_run from zero each = refl
  all_run from (suc d) each =
      let first : p from ≡ true = each from (omega arith) (omega arith) in
      let rest : list_all p (range_with_len (from + 1) d) ≡ true = all_run (from + 1) d (λ c low high. each c (omega (arith, low)) (omega (arith, high))) in
      ap (λ b. b && list_all p (range_with_len (from + 1) d)) first ∙ rest

  -- What goes on as it began says no more, where it began well.
  pub all_behind : (from mid to : ℕ) → from < mid → mid ≤ to → p from ≡ true → ((c : ℕ) → from ≤ c → c < mid → p c ≡ p from)
      → list_all p (between from to) ≡ list_all p (between mid to)
  all_behind from mid to low high begun steady =
      let le : from ≤ mid = omega (arith, low) in
      let reach : from + (mid - from) ≡ mid = omega (arith, low) in
      let front : list_all p (between from mid) ≡ true = all_run from (mid - from) (λ c l h. steady c l (subst (λ n. c < n) reach h) ∙ begun) in
      ap (list_all p) (between_parts from mid to le high) ∙ list_all-append p (between from mid) (between mid to) ∙ ap (λ b. b && list_all p (between mid to)) front

  all_fails : (from d n : ℕ) → n ≡ suc d → p from ≡ false → list_all p (range_with_len from n) ≡ false
  all_fails from d n is failed = ap (λ k. list_all p (range_with_len from k)) is ∙ ap (λ b. b && list_all p (range_with_len (from + 1) d)) failed

  -- Where the first fails, not all of them pass.
  pub fails_first : (from to : ℕ) → from < to → p from ≡ false → list_all p (between from to) ≡ false
  fails_first from to less failed = let some : to - from ≡ suc (to - from - 1) = omega (arith, less) in all_fails from (to - from - 1) (to - from) some failed

  pub none_left : (from to : ℕ) → to ≤ from → list_all p (between from to) ≡ true
  none_left from to less = ap (list_all p) (between_none from to less)

  -- ---- how many

  count_run : (b : Bool) (from d : ℕ) → ((c : ℕ) → from ≤ c → c < from + d → p c ≡ b) → count_by p (range_with_len from d) ≡ cond b d 0
  count_run true from zero each = refl
  count_run false from zero each = refl
  count_run b from (suc d) each =
      let first : p from ≡ b = each from (omega arith) (omega arith) in
      let rest : count_by p (range_with_len (from + 1) d) ≡ cond b d 0 = count_run b (from + 1) d (λ c low high. each c (omega (arith, low)) (omega (arith, high))) in
      sum_by-cons (λ c. cond (p c) 1 0) from (range_with_len (from + 1) d)
      ∙ ap (λ t. cond t 1 0 + count_by p (range_with_len (from + 1) d)) first ∙ ap (λ k. cond b 1 0 + k) rest ∙ one_more b d
    where
      one_more : (b : Bool) (d : ℕ) → cond b 1 0 + cond b d 0 ≡ cond b (suc d) 0
      one_more true d = omega arith
      one_more false d = refl

  -- What goes on as it began is counted whole, or not at all.
  pub count_behind : (cycle next : ℕ) → cycle < next → ((c : ℕ) → cycle ≤ c → c < next → p c ≡ p cycle)
      → count_by p (range_with_len 0 next) ≡ count_by p (range_with_len 0 cycle) + cond (p cycle) (next - cycle) 0
  count_behind cycle next low steady =
      let whole : next ≡ cycle + (next - cycle) = omega (arith, low) in
      let at : 0 + cycle ≡ cycle = omega arith in
      let run : count_by p (range_with_len cycle (next - cycle)) ≡ cond (p cycle) (next - cycle) 0 = count_run (p cycle) cycle (next - cycle) (λ c l h. steady c l (subst (λ n. c < n) (sym whole) h)) in
      ap (count_by p) (range_parts 0 cycle (next - cycle) next whole ∙ ap (λ k. range_with_len 0 cycle ++ range_with_len k (next - cycle)) at)
      ∙ sum_by-append (λ c. cond (p c) 1 0) (range_with_len 0 cycle) (range_with_len cycle (next - cycle))
      ∙ ap (λ k. count_by p (range_with_len 0 cycle) + k) run

-- Whole, or not at all
pub at_most : (b : Bool) (n : ℕ) → cond b n 0 ≤ n
at_most true n = omega arith
at_most false n = omega arith

-- Where one fails, not all of them pass.
pub all_fails_at : (p : ℕ → Bool) (from n i j : ℕ) → i < n → j ≡ from + i → p j ≡ false → list_all p (range_with_len from n) ≡ false
all_fails_at p from zero i j less at failed = absurd (omega (arith, less))
all_fails_at p from (suc n) zero j less at failed =
    let here : j ≡ from = omega (arith, at) in
    ap (λ b. b && list_all p (range_with_len (from + 1) n)) (ap p (sym here) ∙ failed)
all_fails_at p from (suc n) (suc i) j less at failed =
    ap (λ b. p from && b) (all_fails_at p (from + 1) n i j (omega (arith, less)) (omega (arith, at)) failed) ∙ and_none (p from)
  where
    and_none : (b : Bool) → (b && false) ≡ false
    and_none true = refl
    and_none false = refl
