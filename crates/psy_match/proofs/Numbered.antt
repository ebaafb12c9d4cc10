-- What is given of each number of a range, one number more.
use Rattle.std.proofs.Common.{◌≡◌, ℕ, ◌+◌, List, [], ◌∷◌, ◌++◌, map, refl, sym, ap, ◌∙◌}
use Rattle.std.specs.List.{flat_map, range_with_len}
use Rattle.std.proofs.lemmas.List.{flat_map_more}
use Rattle.psy_lists.proofs.lemmas.Ranges.{range_more}

map_same : (xs : List ℕ) → map (λ (k : ℕ). k) xs ≡ xs
map_same [] = refl
map_same (x ∷ xs) = ap (λ ys. x ∷ ys) (map_same xs)

pub numbered : {A : Type 0} (f : ℕ → List A) (n : ℕ) (old now new : List A) → now ≡ old ++ flat_map f (range_with_len 0 n) → new ≡ now ++ f n
    → new ≡ old ++ flat_map f (range_with_len 0 (n + 1))
numbered f n old now new before more =
    more ∙ ap (λ t. t ++ f n) before ∙ flat_map_more f old (range_with_len 0 n) n ∙ ap (λ xs. old ++ flat_map f xs) (sym (range_more n))
