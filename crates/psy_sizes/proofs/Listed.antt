-- Lists of what is there by number.
use Rattle.std.proofs.Common.{◌≡◌, ℕ, zero, suc, List, ◌∷◌, Some, subst}
use Rattle.std.specs.Prelude.{slice_get}
use Rattle.std.proofs.lemmas.Option.{same_Some}

-- One more in front
with_first : {X : Type 0} (Has : ℕ → X → Type 0) (x : X) (xs : List X) → Has 0 x → ((k : ℕ) (y : X) → slice_get xs k ≡ Some y → Has (suc k) y) → (k : ℕ) (y : X) → slice_get (x ∷ xs) k ≡ Some y → Has k y
with_first Has x xs has others zero y is = subst (Has 0) (same_Some x y is) has
with_first Has x xs has others (suc k) y is = others k y is
