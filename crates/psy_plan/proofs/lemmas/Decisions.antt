-- One of two things holds.
use Rattle.std.proofs.Common.{refl, ℕ, suc, ◌<◌, ◌≤◌, List, [], ◌∷◌, ◌⊎◌, inl, inr, arith}
use Rattle.std.specs.List.{All, Any}
use Rattle.std.proofs.lemmas.Bool.{cases_lt}
use Rattle.std.proofs.lemmas.List.Elements.{All-nil, All-cons}

-- ---- numbers

-- A number is at most another, or more.
pub most_or_more : (m n : ℕ) → (m ≤ n) ⊎ (n < m)
most_or_more m n = elim (cases_lt n m) [ inl more ↦ inr more | inr most ↦ inl most ]

-- ---- lists

-- Each keeps the one, or some the other.
pub all_or_any : {X : Type 0} (P Q : X → Type 0) → ((x : X) → P x ⊎ Q x) → (xs : List X) → All P xs ⊎ Any Q xs
all_or_any P Q each [] = inl (All-nil P)
all_or_any P Q each (x ∷ xs) = elim (each x) [
  | inr q ↦ inr (0, x, omega arith, refl, q)
  | inl p ↦ elim (all_or_any P Q each xs) [
    | inl all ↦ inl (All-cons P x xs p all)
    | inr any ↦ inr (suc any.0, any.1, omega (arith, any.2), any.3, any.4)
  ]
]
