-- The greatest of what there is.
use Rattle.std.proofs.Common.{◌≡◌, ℕ, ◌≤◌, ◌⊎◌, inl, inr, arith}
use Rattle.psy_base.specs.Extremes.{IsMost}

pub no_more : (Has : ℕ → Type 0) (n m : ℕ) → (n ≡ 0) ⊎ Has n → IsMost Has m → n ≤ m
no_more Has n m (inl e) most = omega (arith, e)
no_more Has n m (inr has) most = most.all n has
