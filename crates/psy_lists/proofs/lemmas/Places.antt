-- What stands at the places of a list.
use Rattle.std.proofs.Common.{◌≡◌, ◌∙◌, ℕ, zero, suc, ◌+◌, ◌<◌, ◌≤◌, List, [], ◌∷◌, ◌++◌, append-nil, map, take, drop, length, get_or, Some, refl, sym, ap, subst, inl, inr, arith}
use Rattle.std.specs.Prelude.{slice_get}
use Rattle.std.specs.List.{Contains}
use Rattle.std.proofs.Math.ListN.{drop_of_length-le}
use Rattle.std.proofs.Math.Seq.{take-length}
use Rattle.std.proofs.lemmas.Bool.{cases_lt}
use Rattle.std.proofs.lemmas.List.{drop_more, get_or_append_left, get_or_push}
use Rattle.std.proofs.lemmas.Option.{none-some, same_Some, slice_get-get_or}

-- ---- one list

-- There is an element at each place below the length.
pub there : {X : Type 0} (xs : List X) (i : ℕ) → i < length xs → (x : X) × (slice_get xs i ≡ Some x)
there [] i less = absurd (omega (arith, less))
there (x ∷ xs) zero less = (x, refl)
there (x ∷ xs) (suc i) less = there xs i (omega (arith, less))

-- An element that is read is the one at that place.
pub read_is : {X : Type 0} (xs : List X) (i : ℕ) (x y : X) → i < length xs → x ≡ get_or xs i x → slice_get xs i ≡ Some y → x ≡ y
read_is xs i x y less is at = let same : Some x ≡ Some y = ap Some is ∙ sym (slice_get-get_or xs i x less) ∙ at in cc

-- What is left of a list, one item on
pub drop_read : {X : Type 0} (xs : List X) (i : ℕ) (x : X) → i < length xs → x ≡ get_or xs i x → drop i xs ≡ x ∷ drop (i + 1) xs
drop_read xs i x h is = drop_more xs i x h ∙ ap (λ y. y ∷ drop (i + 1) xs) (sym is)

-- A list that has a member is there.
pub listed_at : (lists : List (List ℕ)) (i n : ℕ) → Contains (get_or lists i []) n → slice_get lists i ≡ Some (get_or lists i [])
listed_at [] i n (k, less, is) = absurd (omega (arith, less))
listed_at (list ∷ lists) zero n c = refl
listed_at (list ∷ lists) (suc i) n c = listed_at lists i n c

-- A list without elements
pub none_left : {X : Type 0} (xs : List X) → length xs ≤ 0 → xs ≡ []
none_left [] few = refl
none_left (x ∷ xs) few = absurd (omega (arith, few))

-- For each number below a bound there is one of these: so there is a list of them.
pub listed : {X : Type 0} (Has : ℕ → X → Type 0) (n : ℕ) → ((k : ℕ) → k < n → (x : X) × Has k x) → (xs : List X) × (length xs ≡ n) × ((k : ℕ) (x : X) → slice_get xs k ≡ Some x → Has k x)
listed Has zero each = ([], refl, λ k x is. absurd (none-some x is))
listed {X} Has (suc n) each =
    let first = each 0 (omega arith) in
    let (xs, many, others) = listed (λ k. Has (suc k)) n (λ k less. each (suc k) (omega (arith, less))) in
    (first.0 ∷ xs, omega (arith, many), with_first Has first.0 xs first.1 others)
  where
    with_first : {X : Type 0} (Has : ℕ → X → Type 0) (x : X) (xs : List X) → Has 0 x → ((k : ℕ) (y : X) → slice_get xs k ≡ Some y → Has (suc k) y) → (k : ℕ) (y : X) → slice_get (x ∷ xs) k ≡ Some y → Has k y
    with_first Has x xs has others zero y is = subst (Has 0) (same_Some x y is) has
    with_first Has x xs has others (suc k) y is = others k y is

-- ---- two lists

-- Lists with the same at each place are the same.
pub same_lists : {X : Type 0} (xs ys : List X) → length xs ≡ length ys → ((i : ℕ) (x y : X) → slice_get xs i ≡ Some x → slice_get ys i ≡ Some y → x ≡ y) → xs ≡ ys
same_lists [] [] count each = refl
same_lists [] (y ∷ ys) count each = absurd (omega (arith, count))
same_lists (x ∷ xs) [] count each = absurd (omega (arith, count))
same_lists (x ∷ xs) (y ∷ ys) count each =
    ap (λ z. z ∷ xs) (each zero x y refl refl) ∙ ap (λ zs. y ∷ zs) (same_lists xs ys (omega (arith, count)) (λ i. each (suc i)))

-- One list in front of another
pub in_front : {X : Type 0} (xs ys : List X) (i : ℕ) (x : X) → slice_get xs i ≡ Some x → slice_get (xs ++ ys) i ≡ Some x
in_front [] ys i x e = absurd (cc)
in_front (y ∷ xs) ys zero x e = e
in_front (y ∷ xs) ys (suc i) x e = in_front xs ys i x e

-- What a slice of a whole vector is written back as
pub written_back : {X : Type 0} (old new : List X) (n : ℕ) → n ≡ length old → length new ≡ length old → take n (new ++ drop (length new) old) ≡ new
written_back old new n all as_many =
    ap (λ rest. take n (new ++ rest)) (drop_of_length-le old (omega (arith, as_many))) ∙ ap (take n) (append-nil new)
    ∙ ap (λ k. take k new) (all ∙ sym as_many) ∙ take-length new

-- ---- one element more

-- What holds by place of each element, and of one more
pub each_pushed : {X : Type 0} (P : ℕ → X → Type 0) (xs : List X) (x : X) → ((i : ℕ) (y : X) → slice_get xs i ≡ Some y → P i y) → P (length xs) x → (i : ℕ) (y : X) → slice_get (xs ++ x ∷ []) i ≡ Some y → P i y
each_pushed P [] x each last zero y at = let same : x ≡ y = cc in subst (P 0) same last
each_pushed P [] x each last (suc i) y at = cc
each_pushed P (z ∷ xs) x each last zero y at = each zero y at
each_pushed P (z ∷ xs) x each last (suc i) y at = each_pushed (λ j. P (suc j)) xs x (λ j. each (suc j)) last i y at

-- The same of what is read with any default
pub each_more : {X : Type 0} (P : ℕ → X → Type 0) (xs ys : List X) (x : X) (n : ℕ) → length xs ≡ n → ((i : ℕ) (d : X) → i < n → P i (get_or xs i d)) → P n x → ys ≡ xs ++ x ∷ [] → (i : ℕ) (d : X) → i < n + 1 → P i (get_or ys i d)
each_more P xs ys x n count each one pushed i d l = elim (cases_lt i n) [
  | inl h ↦ subst (P i) (sym (ap (λ zs. get_or zs i d) pushed ∙ get_or_append_left xs (x ∷ []) d i (omega (arith, h, count)))) (each i d h)
  | inr h ↦ (let is : i ≡ n = omega (arith, l, h) in
      subst (P i) (sym (ap (λ zs. get_or zs i d) pushed ∙ get_or_push xs x d i (count ∙ sym is))) (subst (λ k. P k x) (sym is) one))
]

-- ---- what is made of each element

pub mapped : {X Y : Type 0} (f : X → Y) (xs : List X) (i : ℕ) (x : X) → slice_get xs i ≡ Some x → slice_get (map f xs) i ≡ Some (f x)
mapped f [] i x at = absurd (cc)
mapped f (y ∷ xs) zero x at = (let same : y ≡ x = cc in ap (λ z. Some (f z)) same)
mapped f (y ∷ xs) (suc i) x at = mapped f xs i x at

pub mapped_from : {X Y : Type 0} (f : X → Y) (xs : List X) (i : ℕ) (y : Y) → slice_get (map f xs) i ≡ Some y → (x : X) × (slice_get xs i ≡ Some x) × (f x ≡ y)
mapped_from f [] i y at = absurd (cc)
mapped_from f (x ∷ xs) zero y at = (x, refl, let same : f x ≡ y = cc in same)
mapped_from f (x ∷ xs) (suc i) y at = mapped_from f xs i y at
