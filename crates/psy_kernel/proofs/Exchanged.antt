-- Lists whose items are exchanged for others, and lists of one item.
use Rattle.std.proofs.Common.{◌≡◌, refl, ap, ◌∙◌, arith}
use Rattle.std.specs.Prelude.{ℕ, zero, suc, List, [], ◌∷◌, length, replicate, Some, slice_get, slice_set}

-- The last one counts.
pub set_twice : {X : Type 0} (xs : List X) (place : ℕ) (x y : X) → slice_set (slice_set xs place x) place y ≡ slice_set xs place y
set_twice [] place x y = refl
set_twice (z ∷ xs) zero x y = refl
set_twice (z ∷ xs) (suc place) x y = ap (λ zs. z ∷ zs) (set_twice xs place x y)

-- A list with one item at all its places
pub all_same : {X : Type 0} (xs : List X) (n : ℕ) (x : X) → length xs ≡ n → ((place : ℕ) (y : X) → slice_get xs place ≡ Some y → y ≡ x) → xs ≡ replicate n x
all_same [] zero x e each = refl
all_same [] (suc n) x e each = absurd (omega (arith, e))
all_same (y ∷ ys) zero x e each = absurd (omega (arith, e))
all_same (y ∷ ys) (suc n) x e each =
    let first : y ≡ x = each 0 y refl in
    let rest = all_same ys n x (omega (arith, e)) (λ place z at. each (suc place) z at) in
    ap (λ z. z ∷ ys) first ∙ ap (λ zs. x ∷ zs) rest
