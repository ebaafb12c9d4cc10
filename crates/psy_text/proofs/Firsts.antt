-- How many elements at the front of a list pass a test.
use Rattle.std.proofs.Common.{◌≡◌, suc, ◌+◌, ◌<◌, Bool, not, true, false, List, ◌∷◌, length, take, drop, get_or, sym, ap, ◌∙◌, one-add, length-drop, length-take, get_or-take, arith}
use Rattle.std.specs.List.{list_any, prefix_len}
use Rattle.std.proofs.lemmas.List.{drop_more}
use Rattle.std.proofs.lemmas.List.Sums.{fails_before_first, prefix_len_stops}
use Rattle.std.proofs.lemmas.List.Folds.{list_any_none}
use Rattle.std.proofs.lemmas.Bool.{cond-true, cond-false}

-- Where the first passes, one more than in the rest
pub prefix_len-pass : {X : Type 0} (p : X → Bool) (x : X) (xs : List X) → p x ≡ true → prefix_len p (x ∷ xs) ≡ suc (prefix_len p xs)
prefix_len-pass p x xs e = cond-true (p x) (1 + prefix_len p xs) 0 e ∙ one-add (prefix_len p xs)

-- None, where the first fails
pub prefix_len-fail : {X : Type 0} (p : X → Bool) (x : X) (xs : List X) → p x ≡ false → prefix_len p (x ∷ xs) ≡ 0
prefix_len-fail p x xs e = cond-false (p x) (1 + prefix_len p xs) 0 e

-- Before the first element that passes a test none passes.
pub none_before : {X : Type 0} (p : X → Bool) (xs : List X) → list_any p (take (prefix_len (λ x. not (p x)) xs) xs) ≡ false
none_before p xs =
    let n = prefix_len (λ x. not (p x)) xs in
    list_any_none p (take n xs)
    (λ k d within. ap p (get_or-take n xs k d (omega (arith, length-take n xs))) ∙ fails_before_first p xs k d (omega (arith, length-take n xs)))

-- The first element that fails a test fails it.
pub fails_there : {X : Type 0} (p : X → Bool) (xs : List X) (x : X) (rest : List X) → drop (prefix_len p xs) xs ≡ x ∷ rest → p x ≡ false
fails_there p xs x rest e =
    let n = prefix_len p xs in
    let within : n < length xs = omega (arith, length-drop n xs, ap length e) in
    ap (λ ys. p (get_or ys 0 x)) (sym e ∙ drop_more xs n x within) ∙ prefix_len_stops p xs x within
