-- A list that is made one item after the other.
use Rattle.std.proofs.Common.{◌≡◌, ℕ, zero, suc, ◌+◌, ◌<◌, List, [], ◌∷◌, ◌++◌, map, take, get_or, length, slice_get, Some, sym, ap, ◌∙◌, arith}
use Rattle.std.proofs.Math.Numerals.{add-one}
use Rattle.std.proofs.lemmas.List.FromFn.{map-range_with_len_more}
use Rattle.std.proofs.lemmas.Option.{get_or_from_slice_get, slice_get-get_or}
use Rattle.std.specs.List.{range_with_len}

taken_more : {X : Type 0} (xs : List X) (n : ℕ) (x : X) → slice_get xs n ≡ Some x → take n xs ++ x ∷ [] ≡ take (suc n) xs
taken_more [] n x at = absurd (cc)
taken_more (y ∷ xs) zero x at = (let same : y ≡ x = cc in ap (λ z. z ∷ []) (sym same))
taken_more (y ∷ xs) (suc n) x at = ap (λ ys. y ∷ ys) (taken_more xs n x at)

-- The first items of a list, with the next one
pub taken_next : {X : Type 0} (xs old new : List X) (n : ℕ) (x : X) → new ≡ old ++ x ∷ [] → old ≡ take n xs → slice_get xs n ≡ Some x → new ≡ take (n + 1) xs
taken_next xs old new n x pushed was at = pushed ∙ ap (λ ys. ys ++ x ∷ []) was ∙ taken_more xs n x at ∙ ap (λ m. take m xs) (sym (add-one n))

-- What is made of the first numbers, with that of the next one
pub made_next : {X : Type 0} (f : ℕ → X) (old new : List X) (n : ℕ) (x : X) → new ≡ old ++ x ∷ [] → old ≡ map f (range_with_len 0 n) → x ≡ f n → new ≡ map f (range_with_len 0 (n + 1))
made_next f old new n x pushed was is = pushed ∙ ap (λ ys. ys ++ x ∷ []) was ∙ ap (λ y. map f (range_with_len 0 n) ++ y ∷ []) is ∙ sym (map-range_with_len_more f 0 n n (omega arith))

-- An item is the same however it is read.
pub read_any : {X : Type 0} (xs : List X) (n : ℕ) (x d : X) → n < length xs → x ≡ get_or xs n x → get_or xs n d ≡ x
read_any xs n x d less is = get_or_from_slice_get xs n x d (slice_get-get_or xs n x less ∙ ap Some (sym is))
