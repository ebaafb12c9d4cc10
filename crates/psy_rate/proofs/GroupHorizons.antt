-- The horizon of groups is there where each of them has one, and is one.
use Rattle.std.proofs.Common.{◌≡◌, ◌⊎◌, ℕ, suc, ◌≤◌, List, [], ◌∷◌, All, refl, inl, inr, arith}
use Rattle.std.specs.List.{Contains}
use Rattle.std.proofs.lemmas.Bool.{cases_lt}
use Rattle.std.proofs.lemmas.List.Elements.{All-nil, All-cons, All-head, All-tail, All-weaker, All-contains}
use Rattle.psy_rate.specs.Horizons.{Covers, IsHorizonOf, IsHorizon}
use Rattle.psy_rate.specs.declared.line.Rate.{Rate}
use Rattle.psy_rate.proofs.LeastCovers.{horizon_one, horizon_some}

-- A group has a horizon.
abbrev HasOwn : ℕ → List Rate → Type 0
HasOwn quantum lines = (own : ℕ) × IsHorizonOf quantum lines own

-- It has one up to a length.
abbrev HasUpTo : ℕ → ℕ → List Rate → Type 0
HasUpTo quantum most lines = (own : ℕ) × IsHorizonOf quantum lines own × (own ≤ most)

-- One of the groups has this horizon.
abbrev OneHas : ℕ → List (List Rate) → ℕ → Type 0
OneHas quantum groups length = (lines : List Rate) × Contains groups lines × IsHorizonOf quantum lines length

one_later : (quantum length : ℕ) (first : List Rate) (groups : List (List Rate)) → (length ≡ 0) ⊎ OneHas quantum groups length → (length ≡ 0) ⊎ OneHas quantum (first ∷ groups) length
one_later quantum length first groups (inl none) = inl none
one_later quantum length first groups (inr one) = inr (one.0, (suc one.1.0, omega (arith, one.1.1), one.1.2), one.2)

-- One group more: the greater of both
groups_more : (quantum own rest : ℕ) (lines : List Rate) (groups : List (List Rate)) → IsHorizonOf quantum lines own → IsHorizon quantum groups rest → (length : ℕ) × IsHorizon quantum (lines ∷ groups) length
groups_more quantum own rest lines groups its is = elim (cases_lt own rest) [
  | inl less ↦ (
    rest,
    record {
      each = All-cons (HasUpTo quantum rest) lines groups (own, its, omega (arith, less)) is.each;
      one = one_later quantum rest lines groups is.one;
    },
  )
  | inr most ↦ (
    own,
    record {
      each = All-cons (HasUpTo quantum own) lines groups (own, its, omega arith)
          (All-weaker (HasUpTo quantum rest) (HasUpTo quantum own) (λ other has. (has.0, has.1, omega (arith, has.2, most))) groups is.each);
      one = inr (lines, (0, omega arith, refl), its);
    },
  )
]

-- Groups have a horizon, or one of them has none.
groups_own : (quantum : ℕ) (groups : List (List Rate)) → ((length : ℕ) × IsHorizon quantum groups length) ⊎ (All (HasOwn quantum) groups → ⊥)
groups_own quantum [] = inl (0, record { each = All-nil (HasUpTo quantum 0); one = inl refl })
groups_own quantum (lines ∷ groups) = with_first (horizon_some quantum lines) (groups_own quantum groups)
  where
    with_first : HasOwn quantum lines ⊎ ((length : ℕ) → Covers quantum lines length → ⊥) → ((length : ℕ) × IsHorizon quantum groups length) ⊎ (All (HasOwn quantum) groups → ⊥) → ((length : ℕ) × IsHorizon quantum (lines ∷ groups) length) ⊎ (All (HasOwn quantum) (lines ∷ groups) → ⊥)
    with_first (inl own) (inl rest) = inl (groups_more quantum own.0 rest.0 lines groups own.1 rest.1)
    with_first (inr none) rest = inr (λ all. let own = All-head (HasOwn quantum) lines groups all in none own.0 own.1.covers)
    with_first (inl own) (inr none) = inr (λ all. none (All-tail (HasOwn quantum) lines groups all))

pub groups_some : (quantum : ℕ) (groups : List (List Rate)) → ((length : ℕ) × IsHorizon quantum groups length) ⊎ ((length : ℕ) → IsHorizon quantum groups length → ⊥)
groups_some quantum groups = elim (groups_own quantum groups) [
  | inl some ↦ inl some
  | inr none ↦ inr (λ length is. none (All-weaker (HasUpTo quantum length) (HasOwn quantum) (λ lines has. (has.0, has.1)) groups is.each))
]

-- None is above another.
groups_most : (quantum length other : ℕ) (groups : List (List Rate)) → IsHorizon quantum groups length → IsHorizon quantum groups other → length ≤ other
groups_most quantum length other groups is is' = elim is.one [
  | inl none ↦ omega (arith, none)
  | inr one ↦ (
      let has : HasUpTo quantum other one.0 = All-contains (HasUpTo quantum other) groups one.0 is'.each one.1 in
      let same : length ≡ has.0 = horizon_one quantum one.0 length has.0 one.2 has.1 in
      omega (arith, same, has.2))
]

pub groups_one : (quantum : ℕ) (groups : List (List Rate)) (length other : ℕ) → IsHorizon quantum groups length → IsHorizon quantum groups other → length ≡ other
groups_one quantum groups length other is is' =
    let most : length ≤ other = groups_most quantum length other groups is is' in
    let least : other ≤ length = groups_most quantum other length groups is' is in
    omega (arith, most, least)
