-- Tests of two parts.
use Rattle.std.proofs.Common.{◌≡◌, ℕ, ◌==◌, refl, Bool, true, false, ◌&&◌, ◌||◌, arith}
use Rattle.std.proofs.lemmas.Bool.Decides.{nat_tests}

pub and_left : (a b : Bool) → a && b ≡ true → a ≡ true
and_left true b is = refl
and_left false b is = cc

pub and_right : (a b : Bool) → a && b ≡ true → b ≡ true
and_right true b is = is
and_right false b is = cc

pub or_left : (a b : Bool) → a ≡ true → a || b ≡ true
or_left true b is = refl
or_left false b is = cc

pub or_right : (a b : Bool) → b ≡ true → a || b ≡ true
or_right true b is = refl
or_right false b is = is

pub or_none : (a b : Bool) → a || b ≡ false → (a ≡ false) × (b ≡ false)
or_none true b is = cc
or_none false b is = (refl, is)

pub or_second : (a b : Bool) → a || b ≡ true → a ≡ false → b ≡ true
or_second true b is first = cc
or_second false b is first = is

pub or_of : (a b : Bool) → a ≡ false → b ≡ false → a || b ≡ false
or_of true b first second = cc
or_of false b first second = second

-- A test of two parts, the second or the first of which fails
pub and-false : (a b : Bool) → b ≡ false → a && b ≡ false
and-false true b is = is
and-false false b is = refl

pub first-false : (x y : ℕ) (b : Bool) → (x ≡ y → ⊥) → (x == y) && b ≡ false
first-false x y b differ = grind (arith, nat_tests)
