-- A text is nested too deep at one token at most.
use Rattle.std.proofs.Common.{◌≡◌, ℕ, zero, suc, ◌<◌, ◌≤◌, List, length, ◌⊎◌, inl, inr, below_more, arith}
use Rattle.std.proofs.lemmas.Bool.Decides.{eqb_tells, leb_tells}
use Rattle.psy_base.specs.declared.limits.TheConstants.{BRACKETS, OPERATORS}
use Rattle.psy_tree.specs.declared.token.Token.{Token}
use Rattle.psy_tree.specs.Deep.{bracket_depth, operators_since, up_to, IsTooDeep, Deep, Shallow}

reached_or_not : (tokens : List Token) (n : ℕ) → IsTooDeep tokens n ⊎ (IsTooDeep tokens n → ⊥)
reached_or_not tokens n = elim (eqb_tells (bracket_depth (up_to tokens n)) BRACKETS) [
  | inl deep ↦ inl (inl deep.1)
  | inr flat ↦ elim (eqb_tells (operators_since (up_to tokens n)) OPERATORS) [
    | inl long ↦ inl (inr long.1)
    | inr short ↦ inr (λ reached. elim reached [
      | inl e ↦ flat.1 e
      | inr e ↦ short.1 e
    ])
  ]
]

-- The first of the first n tokens that reaches a measure, or none does
first_or_none : (tokens : List Token) (n : ℕ) → n ≤ length tokens → ((k : ℕ) × Deep tokens k) ⊎ ((earlier : ℕ) → earlier < n → IsTooDeep tokens earlier → ⊥)
first_or_none tokens zero within = inr (λ earlier below. absurd (omega arith))
first_or_none tokens (suc n) within = elim (first_or_none tokens n (omega arith)) [
  | inl found ↦ inl found
  | inr none ↦ elim (reached_or_not tokens n) [
    | inl reached ↦ inl (n, record { stands = omega arith; reached = reached; first = none })
    | inr last ↦ inr (λ earlier below. below_more _ _ none last earlier (omega arith))
  ]
]

pub deep_or_shallow : (tokens : List Token) → ((n : ℕ) × Deep tokens n) ⊎ Shallow tokens
deep_or_shallow tokens = first_or_none tokens (length tokens) (omega arith)

pub Deep-once : (tokens : List Token) (n other : ℕ) → Deep tokens n → Deep tokens other → n ≡ other
Deep-once tokens n other here there = elim (leb_tells n other) [
  | inl up ↦ elim (leb_tells other n) [
    | inl down ↦ omega (arith, up.1, down.1)
    | inr above ↦ absurd (there.first n above.1 here.reached)
  ]
  | inr below ↦ absurd (here.first other below.1 there.reached)
]

pub not_both : (tokens : List Token) (n : ℕ) → Deep tokens n → Shallow tokens → ⊥
not_both tokens n deep shallow = shallow n deep.stands deep.reached
