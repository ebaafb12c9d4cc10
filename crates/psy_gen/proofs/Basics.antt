-- Small facts of options, tests and lists.
use Rattle.std.proofs.Common.{◌≡◌, refl, ap, arith}
use Rattle.std.specs.Prelude.{ℕ, zero, suc, ◌<◌, List, [], ◌∷◌, length, Option, Some, None, slice_get}

abbrev pub default : {A : Type 0} → A → Option A → A
default d None = d
default d (Some x) = x

pub some_is : {A : Type 0} (x y : A) → Some x ≡ Some y → x ≡ y
some_is x y e = ap (default x) e

abbrev pub how_many : {A : Type 0} → Option A → ℕ
how_many None = 0
how_many (Some x) = 1

pub no_some : {A B : Type 0} (x : A) → None ≡ Some x → B
no_some x e = absurd (omega (arith, ap how_many e))

pub got-within : (xs : List ℕ) (i : ℕ) → i < length xs → (x : ℕ) × (slice_get xs i ≡ Some x)
got-within [] i h = absurd (omega (arith, h))
got-within (y ∷ ys) zero h = (y, refl)
got-within (y ∷ ys) (suc i) h = got-within ys i (omega (arith, h))
