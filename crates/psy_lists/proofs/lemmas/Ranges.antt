-- Ranges of numbers that are longer by one.
use Rattle.std.proofs.Common.{◌≡◌, ◌∙◌, ℕ, zero, suc, ◌+◌, [], ◌∷◌, ◌++◌, sum_by, sym, ap, zero-add, arith}
use Rattle.std.specs.List.{range_with_len}
use Rattle.std.proofs.lemmas.List.FromFn.{sum_by-map-range_with_len_more}
use Rattle.std.proofs.lemmas.List.Sums.{sum-map}

-- One number more, behind the others
pub range_longer : (a n : ℕ) → range_with_len a (suc n) ≡ range_with_len a n ++ (a + n) ∷ []
range_longer a zero = (let same : a ≡ a + 0 = omega arith in ap (λ k. k ∷ []) same)
range_longer a (suc n) = (let same : (a + 1) + n ≡ a + suc n = omega arith in ap (λ ks. a ∷ ks) (range_longer (a + 1) n ∙ ap (λ k. range_with_len (a + 1) n ++ k ∷ []) same))

-- The same from 0 on
pub range_more : (n : ℕ) → range_with_len 0 (n + 1) ≡ range_with_len 0 n ++ n ∷ []
range_more n =
    let more : n + 1 ≡ suc n = omega arith in
    let last : 0 + n ≡ n = omega arith in
    ap (range_with_len 0) more ∙ range_longer 0 n ∙ ap (λ k. range_with_len 0 n ++ k ∷ []) last

-- The sum of one number more
pub sum_more : (f : ℕ → ℕ) (n : ℕ) → sum_by f (range_with_len 0 (n + 1)) ≡ sum_by f (range_with_len 0 n) + f n
sum_more f n =
    sym (sum-map f (range_with_len 0 (n + 1))) ∙ sum_by-map-range_with_len_more (λ x. x) f 0 n n (zero-add n) ∙ ap (λ s. s + f n) (sum-map f (range_with_len 0 n))
