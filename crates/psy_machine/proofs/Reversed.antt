-- A list seen from its end.
use Rattle.std.proofs.Common.{◌≡◌, ℕ, ◌+◌, ◌<◌, ◌≤◌, List, [], ◌∷◌, ◌++◌, length, get_or, set, take, drop, reverse, sym, ap, ◌∙◌, arith}
use Rattle.std.proofs.lemmas.List.{take-append-drop, reverse-append, reverse-reverse, length-reverse, length-drop, length-take-le, drop_at, take_at, set_at, drop_more, drop_all, get_or-take, take-take}

-- All but the last, and the last
pub with_last : {A : Type 0} → (xs : List A) (n : ℕ) (d : A) → n + 1 ≡ length xs → xs ≡ take n xs ++ get_or xs n d ∷ []
with_last xs n d h =
    let within : n < length xs = omega arith in
    let past : length xs ≤ n + 1 = omega arith in
    sym (take-append-drop n xs) ∙ ap (λ ys. take n xs ++ ys) (drop_more xs n d within ∙ ap (λ ys. get_or xs n d ∷ ys) (drop_all (n + 1) xs past))

pub reverse-push : {A : Type 0} → (xs : List A) (x : A) → reverse (xs ++ x ∷ []) ≡ x ∷ reverse xs
reverse-push xs x = reverse-append xs (x ∷ [])

-- The last first
pub reverse-with_last : {A : Type 0} → (xs : List A) (n : ℕ) (d : A) → n + 1 ≡ length xs → reverse xs ≡ get_or xs n d ∷ reverse (take n xs)
reverse-with_last xs n d h = ap reverse (with_last xs n d h) ∙ reverse-push (take n xs) (get_or xs n d)

-- All but as many as there are in the front
pub drop-reverse : {A : Type 0} → (xs : List A) (k n : ℕ) → n + k ≡ length xs → drop k (reverse xs) ≡ reverse (take n xs)
drop-reverse xs k n h =
    let parts = reverse-append (take n xs) (drop n xs) in
    let long : length (reverse (drop n xs)) ≡ k = length-reverse (drop n xs) ∙ omega (arith, length-drop n xs) in
    ap (λ ys. drop k (reverse ys)) (sym (take-append-drop n xs)) ∙ ap (drop k) parts ∙ drop_at (reverse (drop n xs)) (reverse (take n xs)) k long

-- The last ones, in their order
pub reverse-take-reverse : {A : Type 0} → (xs : List A) (k n : ℕ) → n + k ≡ length xs → reverse (take k (reverse xs)) ≡ drop n xs
reverse-take-reverse xs k n h =
    let parts = reverse-append (take n xs) (drop n xs) in
    let long : length (reverse (drop n xs)) ≡ k = length-reverse (drop n xs) ∙ omega (arith, length-drop n xs) in
    ap (λ ys. reverse (take k (reverse ys))) (sym (take-append-drop n xs)) ∙ ap (λ ys. reverse (take k ys)) parts
    ∙ ap reverse (take_at (reverse (drop n xs)) (reverse (take n xs)) k long) ∙ reverse-reverse (drop n xs)

-- Another last one
pub reverse-set_last : {A : Type 0} → (xs : List A) (n : ℕ) (x : A) → n + 1 ≡ length xs → reverse (set xs n x) ≡ x ∷ drop 1 (reverse xs)
reverse-set_last xs n x h =
    let short : length (take n xs) ≡ n = length-take-le n xs (omega arith) in
    let whole = with_last xs n x h in
    ap (λ ys. reverse (set ys n x)) whole ∙ ap reverse (set_at (take n xs) (get_or xs n x) [] x n short) ∙ reverse-push (take n xs) x
    ∙ ap (λ ys. x ∷ ys) (sym (drop-reverse xs 1 n h))

-- The last but one
pub second-reverse : {A : Type 0} → (xs : List A) (n : ℕ) (d : A) → n + 2 ≡ length xs → drop 1 (reverse xs) ≡ get_or xs n d ∷ drop 2 (reverse xs)
second-reverse xs n d h =
    let one : n + 1 + 1 ≡ length xs = omega arith in
    let short : length (take (n + 1) xs) ≡ n + 1 = length-take-le (n + 1) xs (omega arith) in
    let under : n < n + 1 = omega arith in
    let within : n ≤ n + 1 = omega arith in
    drop-reverse xs 1 (n + 1) one ∙ reverse-with_last (take (n + 1) xs) n d (sym short)
    ∙ ap (λ x. x ∷ reverse (take n (take (n + 1) xs))) (get_or-take (n + 1) xs n d under)
    ∙ ap (λ ys. get_or xs n d ∷ reverse ys) (take-take n (n + 1) xs within)
    ∙ ap (λ ys. get_or xs n d ∷ ys) (sym (drop-reverse xs 2 n h))
