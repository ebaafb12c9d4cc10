-- Cycles in a row that all go to the same.
use Rattle.std.proofs.Common.{◌≡◌, ℕ, zero, suc, ◌+◌, ◌-◌, ◌<◌, ◌≤◌, refl, sym, ap, ◌∙◌, subst, inl, inr, arith, add-zero, min}
use Rattle.std.specs.Prelude.{◌≢◌}
use Rattle.std.proofs.lemmas.Bool.{cases_lt}
use Rattle.std.proofs.lemmas.Bool.Decides.{nat_tests}
use Rattle.psy_budget.proofs.lemmas.Stalls.{more_stalled}
use Rattle.psy_budget.specs.declared.charge.Tick.{Tick}
use Rattle.psy_budget.specs.declared.charge.Tick.TheVariants.{Paid, Stalled, Spent}
use Rattle.psy_budget.specs.Charges.{Charged, AllGoTo, IsStretch, action_of, stalled, tick_of, after_tick, ticked}
use Rattle.psy_budget.specs.declared.charge.Charge.TheInside.{Inside}
use Rattle.psy_budget.specs.Standing.{IsCharge, charged}

-- The charge after n cycles that all went to this
abbrev pub went : Tick → Charged → ℕ → Charged
went Paid c n = record c { consumed = c.consumed + n; paid = c.paid + n }
went Stalled c n = record c { consumed = c.consumed + n }
went Spent c n = c

went_none : (t : Tick) (c : Charged) → c ≡ went t c 0
went_none Paid c = ap (λ (n : ℕ). record c { consumed = n }) (sym (add-zero c.consumed)) ∙ ap (λ (n : ℕ). record c { consumed = c.consumed + 0; paid = n }) (sym (add-zero c.paid))
went_none Stalled c = ap (λ (n : ℕ). record c { consumed = n }) (sym (add-zero c.consumed))
went_none Spent c = refl

next_sum : (a n : ℕ) → a + n + 1 ≡ a + suc n
next_sum a n = omega arith

suc_sum : (a n : ℕ) → suc (a + n) ≡ a + suc n
suc_sum a n = omega arith

went_more : (t : Tick) (c : Charged) (n : ℕ) → after_tick (went t c n) t ≡ went t c (suc n)
went_more Paid c n = rw (next_sum c.consumed n) (rw (next_sum c.paid n) refl)
went_more Stalled c n = rw (next_sum c.consumed n) refl
went_more Spent c n = refl

-- Cycles behind others are further ones.
pub further : (c : Charged) (n more : ℕ) → ticked (ticked c n) more ≡ ticked c (n + more)
further c n zero = ap (ticked c) (sym (add-zero n))
further c n (suc more) = ap (λ (d : Charged). after_tick d (tick_of d)) (further c n more) ∙ ap (ticked c) (suc_sum n more)

module _ (t : Tick) (c : Charged) where
  -- what cycles leave that all go to this
  pub ticked_all : (n : ℕ) → AllGoTo c t n → ticked c n ≡ went t c n
  ticked_all zero all = went_none t c
  ticked_all (suc n) all =
      let before : ticked c n ≡ went t c n = ticked_all n (λ k less. all k (omega (arith, less))) in
      ap (λ (d : Charged). after_tick d (tick_of d)) before ∙ ap (after_tick (went t c n)) (sym (ap tick_of before) ∙ all n (omega arith)) ∙ went_more t c n

  -- they do so where each does that comes behind as many
  pub all_go : (n : ℕ) → ((k : ℕ) → k < n → tick_of (went t c k) ≡ t) → AllGoTo c t n
  all_go zero each k less = absurd (omega (arith, less))
  all_go (suc n) each k less = elim (cases_lt k n) [
    | inl first ↦ all_go n (λ j small. each j (omega (arith, small))) k first
    | inr last ↦
        let same : k ≡ n = omega (arith, less, last) in
        let before : ticked c n ≡ went t c n = ticked_all n (all_go n (λ j small. each j (omega (arith, small)))) in
        subst (λ j. tick_of (ticked c j) ≡ t) (sym same) (ap tick_of before ∙ each n (omega arith))
  ]

  -- the cycle behind as many that do
  each_goes : (n k : ℕ) → AllGoTo c t n → k < n → tick_of (went t c k) ≡ t
  each_goes n k all less = sym (ap tick_of (ticked_all k (λ j small. all j (omega (arith, small, less))))) ∙ all k less

  -- The greatest number of them is n where these do, and the one behind doesn't, or n is all that is asked for.
  pub stretch : (most n : ℕ) → n ≤ most → ((k : ℕ) → k < n → tick_of (went t c k) ≡ t) → (n < most → tick_of (went t c n) ≡ t → ⊥) → IsStretch c t most n
  stretch most n within each end = record {
    within = within;
    all = all_go n each;
    greatest = λ m small all. elim (cases_lt n m) [ inl more ↦ absurd (end (omega (arith, more, small)) (each_goes m n all more)) | inr less ↦ less ];
  }

pub stalled_spent : Spent ≡ Stalled → ⊥
stalled_spent e = cc

-- No cycle follows where the budget is spent.
pub no_stretch : (t : Tick) (c : Charged) (most n : ℕ) → (Spent ≡ t → ⊥) → c.consumed ≡ c.budget → n ≡ 0 → IsStretch c t most n
no_stretch t c most n other spent none =
    let end : tick_of c ≡ Spent = grind (arith, nat_tests) in
    stretch t c most n (omega (arith, none)) (λ k less. absurd (omega (arith, less, none))) (λ _ wrong. other (sym end ∙ ap tick_of (went_none t c) ∙ ap (λ m. tick_of (went t c m)) (sym none) ∙ wrong))

module _ (c : Charged) (left : ℕ) (within : c.consumed ≤ c.budget) (is : c.paid + stalled c.stalls (action_of c) (c.paid + 1) ≡ c.consumed + left) where
  stalls : (k : ℕ) → k < left → k < c.budget - c.consumed → tick_of (went Stalled c k) ≡ Stalled
  stalls k less granted = grind (arith, nat_tests)

  stalls_no_more : (n : ℕ) → left ≤ n → tick_of (went Stalled c n) ≡ Stalled → ⊥
  stalls_no_more n more wrong = grind (arith, nat_tests)

  not_granted : (n : ℕ) → n ≡ c.budget - c.consumed → tick_of (went Stalled c n) ≡ Stalled → ⊥
  not_granted n all wrong = grind (arith, nat_tests)

  -- The stalled cycles that come next are those left of the stalls, as far as they are granted.
  pub stalled_stretch : (most n : ℕ) → n ≡ min (min most left) (c.budget - c.consumed) → IsStretch c Stalled most n
  stalled_stretch most n least = stretch Stalled c most n (omega (arith, least)) (λ k less. stalls k (omega (arith, less, least)) (omega (arith, less, least)))
      (λ less wrong. elim (cases_lt n left) [ inl small ↦ not_granted n (omega (arith, less, least, small)) wrong | inr more ↦ stalls_no_more n more wrong ])

pub spent_paid : Spent ≡ Paid → ⊥
spent_paid e = cc

paid_then : (c : Charged) → tick_of c ≡ Paid → (c.consumed ≢ c.budget) × (c.paid + stalled c.stalls (action_of c) (c.paid + 1) ≤ c.consumed)
paid_then c e = grind (arith, nat_tests)

paid_where : (c : Charged) → (c.consumed ≢ c.budget) → c.paid + stalled c.stalls (action_of c) (c.paid + 1) ≤ c.consumed → tick_of c ≡ Paid
paid_where c other less = grind (arith, nat_tests)

-- No stall is left before the next instruction: then so many cycles that come next pay as no stall stands before, as far as they are granted.
module _ (c : Charged) (within : c.consumed ≤ c.budget) (is : c.paid + stalled c.stalls (action_of c) (c.paid + 1) ≡ c.consumed) where
  pub paid_stretch : (most granted n : ℕ) → granted ≡ min most (c.budget - c.consumed) → n ≤ granted
      → ((k : ℕ) → k < n → stalled c.stalls (action_of c) (c.paid + k + 1) ≡ stalled c.stalls (action_of c) (c.paid + 1))
      → (n < granted → stalled c.stalls (action_of c) (c.paid + 1) < stalled c.stalls (action_of c) (c.paid + n + 1)) → IsStretch c Paid most n
  paid_stretch most granted n are less same next = stretch Paid c most n (omega (arith, are, less))
      (λ k small. paid_where (went Paid c k) (λ e. omega (arith, e, small, less, are)) (omega (arith, is, same k small)))
      (λ short wrong. let pays : (c.consumed + n ≢ c.budget) × (c.paid + n + stalled c.stalls (action_of c) (c.paid + n + 1) ≤ c.consumed + n) = paid_then (went Paid c n) wrong in
      elim (cases_lt n granted) [ inl small ↦ omega (arith, pays.1, next small, is) | inr more ↦ pays.0 (omega (arith, more, less, are, short, within)) ])

-- What follows where the next n cycles pay
pub record ArePaid (c : Charged) (left n : ℕ) : Type 0 where
  pub granted : c.consumed + n ≤ c.budget
  pub none : left ≡ 0
  pub same : c.paid + stalled c.stalls (action_of c) (c.paid + n) ≡ c.consumed

module _ (c : Charged) (left n : ℕ) (within : c.consumed ≤ c.budget) (is : c.paid + stalled c.stalls (action_of c) (c.paid + 1) ≡ c.consumed + left) (some : 0 < n) (all : AllGoTo c Paid n) where
  pays : (k : ℕ) → k < n → (c.consumed + k ≢ c.budget) × (c.paid + k + stalled c.stalls (action_of c) (c.paid + k + 1) ≤ c.consumed + k)
  pays k less = paid_then (went Paid c k) (each_goes Paid c n k all less)

  enough : c.consumed + n ≤ c.budget
  enough = elim (cases_lt (c.budget - c.consumed) n) [ inl less ↦ absurd ((pays (c.budget - c.consumed) less).0 (omega (arith, within))) | inr more ↦ omega (arith, more, within) ]

  are_paid : ArePaid c left n
  are_paid =
      let last : c.paid + (n - 1) + 1 ≡ c.paid + n = omega (arith, some) in
      let more : stalled c.stalls (action_of c) (c.paid + 1) ≤ stalled c.stalls (action_of c) (c.paid + n) = more_stalled (action_of c) (c.paid + 1) (c.paid + n) c.stalls (omega (arith, some)) in
      let end : c.paid + (n - 1) + stalled c.stalls (action_of c) (c.paid + n) ≤ c.consumed + (n - 1) =
      subst (λ m. c.paid + (n - 1) + stalled c.stalls (action_of c) m ≤ c.consumed + (n - 1)) last (pays (n - 1) (omega (arith, some))).1 in
      record { granted = enough; none = omega (arith, is, more, end, some); same = omega (arith, is, more, end, some) }

-- An action whose budget isn't spent has started.
pub has_started : (c : Inside) → IsCharge c → (c.consumed ≢ c.budget) → 0 < c.started
has_started c is other = elim (cases_lt 0 c.started) [
  | inl some ↦ some
  | inr none ↦ absurd (other (omega (arith, is.within, is.unstarted (omega (arith, none)))))
]

-- Nothing but no cycle pays where a stall is left.
pub stalled_first : (c : Inside) (most n : ℕ) → IsCharge c → 0 < c.left → n ≡ 0 → IsStretch (charged c) Paid most n
stalled_first c most n is some none = stretch Paid (charged c) most n (omega (arith, none)) (λ k less. absurd (omega (arith, less, none)))
    (λ _ wrong. let pays : (c.consumed + n ≢ c.budget) × (c.paid + n + stalled c.stalls (c.started - 1) (c.paid + n + 1) ≤ c.consumed + n) = paid_then (went Paid (charged c) n) wrong in
    let first : c.paid + n + 1 ≡ c.paid + 1 = omega (arith, none) in
    omega (arith, pays.1, none, some, ap (stalled c.stalls (c.started - 1)) first, is.left (has_started c is (λ e. pays.0 (omega (arith, e, none))))))

-- What follows where the next n cycles pay, some at least
pub they_pay : (c : Inside) (n : ℕ) → IsCharge c → 0 < n → AllGoTo (charged c) Paid n → ArePaid (charged c) c.left n
they_pay c n is some all =
    let first : (c.consumed ≢ c.budget) × (c.paid + stalled c.stalls (c.started - 1) (c.paid + 1) ≤ c.consumed) = paid_then (charged c) (all 0 some) in
    are_paid (charged c) c.left n is.within (is.left (has_started c is first.0)) some all
