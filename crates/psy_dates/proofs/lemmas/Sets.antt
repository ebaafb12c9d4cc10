-- The elements of a list with another one at a place.
use Rattle.std.proofs.Common.{◌≡◌, refl, ap, arith}
use Rattle.std.specs.Prelude.{ℕ, zero, suc, ◌<◌, List, [], ◌∷◌, length, Some, slice_get, slice_set}

pub get_set_same : {X : Type 0} (xs : List X) (place : ℕ) (y x : X) → slice_get (slice_set xs place y) place ≡ Some x → x ≡ y
get_set_same [] place y x e = cc
get_set_same (z ∷ xs) zero y x e = cc
get_set_same (z ∷ xs) (suc place) y x e = get_set_same xs place y x e

pub get_set_other : {X : Type 0} (xs : List X) (place other : ℕ) (y : X) → (other ≡ place → ⊥) → slice_get (slice_set xs place y) other ≡ slice_get xs other
get_set_other [] place other y h = refl
get_set_other (z ∷ xs) zero zero y h = absurd (h refl)
get_set_other (z ∷ xs) zero (suc other) y h = refl
get_set_other (z ∷ xs) (suc place) zero y h = refl
get_set_other (z ∷ xs) (suc place) (suc other) y h = get_set_other xs place other y (λ e. h (ap suc e))

pub get_set_there : {X : Type 0} (xs : List X) (place : ℕ) (y : X) → place < length xs → slice_get (slice_set xs place y) place ≡ Some y
get_set_there [] place y l = absurd (omega (arith, l))
get_set_there (z ∷ xs) zero y l = refl
get_set_there (z ∷ xs) (suc place) y l = get_set_there xs place y (omega (arith, l))
