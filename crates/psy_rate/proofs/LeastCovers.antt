-- The horizon of a group is there where some length is covered, and is one.
use Rattle.std.proofs.Common.{◌≡◌, ◌⊎◌, ℕ, zero, suc, ◌+◌, ◌-◌, ◌*◌, ◌<◌, ◌≤◌, List, subst, inl, inr, arith}
use Rattle.std.proofs.lemmas.Bool.{cases_eq, cases_lt}
use Rattle.std.proofs.Math.Nat.{mul-le-mul_right}
use Rattle.psy_rate.specs.Horizons.{rate_of, intercept_of, Covers, IsHorizonOf}
use Rattle.psy_rate.specs.declared.line.Rate.{Rate}
use Rattle.psy_rate.specs.declared.line.TheConstants.{SCALE}

pub horizon_one : (quantum : ℕ) (lines : List Rate) (length other : ℕ) → IsHorizonOf quantum lines length → IsHorizonOf quantum lines other → length ≡ other
horizon_one quantum lines length other is is' =
    let most = is.least other is'.covers in
    let least = is'.least length is.covers in
    omega (arith, most, least)

-- Where no length below one is covered, and one so many steps behind it is, there is a least.
least_from : (quantum : ℕ) (lines : List Rate) (steps from : ℕ) → ((less : ℕ) → Covers quantum lines less → from ≤ less) → Covers quantum lines (from + steps) → (length : ℕ) × IsHorizonOf quantum lines length
least_from quantum lines zero from below covers = (from, record { covers = subst (Covers quantum lines) (omega arith) covers; least = below })
least_from quantum lines (suc steps) from below covers =
    elim (cases_lt ((quantum * SCALE - rate_of lines) * from) (intercept_of lines)) [
      | inl passes ↦ least_from quantum lines steps (suc from) (next passes) (subst (Covers quantum lines) (omega arith) covers)
      | inr fits ↦ (from, record { covers = (covers.0, fits); least = below })
    ]
  where
    next : (quantum * SCALE - rate_of lines) * from < intercept_of lines → (less : ℕ) → Covers quantum lines less → suc from ≤ less
    next passes less is = elim (cases_eq less from) [
      | inl same ↦ (
          let here : intercept_of lines ≤ (quantum * SCALE - rate_of lines) * from = subst (λ n. intercept_of lines ≤ (quantum * SCALE - rate_of lines) * n) same is.1 in
          absurd (omega (arith, here, passes)))
      | inr other ↦ let at = below less is in omega (arith, at, other)
    ]

pub horizon_some : (quantum : ℕ) (lines : List Rate) → ((length : ℕ) × IsHorizonOf quantum lines length) ⊎ ((length : ℕ) → Covers quantum lines length → ⊥)
horizon_some quantum lines = elim (cases_lt (quantum * SCALE) (rate_of lines)) [
  | inl more ↦ inr (λ length is. let most = is.0 in absurd (omega (arith, more, most)))
  | inr most ↦ elim (cases_lt ((quantum * SCALE - rate_of lines) * intercept_of lines) (intercept_of lines)) [
    | inl passes ↦ inr (λ length is. never passes length is.1)
    | inr fits ↦ inl (least_from quantum lines (intercept_of lines) 0 (λ less is. omega arith) (subst (Covers quantum lines) (omega arith) (most, fits)))
  ]
]
  where
    -- where it isn't covered as far out as the intercept is great, nothing is left of the supply
    never : (quantum * SCALE - rate_of lines) * intercept_of lines < intercept_of lines → (length : ℕ) → intercept_of lines ≤ (quantum * SCALE - rate_of lines) * length → ⊥
    never passes length fits = elim (cases_eq (quantum * SCALE - rate_of lines) 0) [
      | inl none ↦ (
          let nothing : intercept_of lines ≤ 0 * length = subst (λ n. intercept_of lines ≤ n * length) none fits in
          absurd (omega (arith, nothing, passes)))
      | inr some ↦ (
          let one : 1 ≤ quantum * SCALE - rate_of lines = omega (arith, some) in
          let more : 1 * intercept_of lines ≤ (quantum * SCALE - rate_of lines) * intercept_of lines = mul-le-mul_right (intercept_of lines) one in
          absurd (omega (arith, more, passes)))
    ]
