-- Values of 32 bits, as calls hand them on.
use Rattle.std.proofs.Common.{◌≡◌, w32, to_z, of_z, ap, ◌∙◌, arith}
use Rattle.std.specs.Prelude.{ℤ}
use Rattle.std.proofs.lemmas.Int.{ints}
use mir.Val.{SFits}

-- A value is what its bits say.
pub clean : (z : ℤ) → SFits w32 z → to_z w32 (of_z w32 z) ≡ z
clean z fits = omega (arith, ints)

-- What is computed of two values
pub clean_two : {X : Type 0} (f : ℤ → ℤ → X) (a b : ℤ) → SFits w32 a → SFits w32 b → f (to_z w32 (of_z w32 a)) (to_z w32 (of_z w32 b)) ≡ f a b
clean_two f a b fits_a fits_b = ap (λ x. f x (to_z w32 (of_z w32 b))) (clean a fits_a) ∙ ap (f a) (clean b fits_b)
