-- Figures that go on from those of the beginning, with one action more.
use Rattle.std.proofs.Common.{◌≡◌, ℕ, zero, suc, ◌+◌, min, List, ◌∷◌, ◌++◌, Option, Some, None, refl, ap, arith}
use Rattle.psy_base.specs.Extremes.{least_of, lesser}
use Rattle.psy_history.specs.Summary.{added_to, numbers_in}

-- A count behind the one before is their sum.
pub added_is : (before n : ℕ) → added_to before n ≡ n + before
added_is zero n = omega arith
added_is (suc before) n = refl

-- One more
pub added_more : (before n : ℕ) → added_to before n + 1 ≡ added_to before (suc n)
added_more before n = let a = added_is before n in let b = added_is before (suc n) in omega (arith, a, b)

-- The lesser of two numbers and the least of others, in either order
lesser_either : (m n : ℕ) (o : Option ℕ) → lesser n (lesser m o) ≡ lesser m (lesser n o)
lesser_either m n None = let same : min n m ≡ min m n = omega arith in ap Some same
lesser_either m n (Some k) = let same : min n (min m k) ≡ min m (min n k) = omega arith in ap Some same

-- The least with one number more, behind the one that was there before
pub least_more : (before : Option ℕ) (n : ℕ) (ns : List ℕ) → lesser n (least_of (numbers_in before ++ ns)) ≡ least_of (numbers_in before ++ n ∷ ns)
least_more None n ns = refl
least_more (Some m) n ns = lesser_either m n (least_of ns)
