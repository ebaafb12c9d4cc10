-- Lists that are made of parts: what a test picks of them, where they are split, and how they stand turned round.
use Rattle.std.proofs.Common.{◌≡◌, ◌∙◌, refl, sym, ap, subst, ℕ, zero, suc, ◌+◌, ◌-◌, ◌<◌, ◌≤◌, Bool, true, false, cond, List, [], ◌∷◌, ◌++◌, append-nil, map, length, get_or, reverse, inl, inr, arith}
use Rattle.std.specs.Prelude.{◌⊎◌, filter}
use Rattle.std.specs.List.{AllPairs, Contains, flat_map, range_with_len}
use Rattle.std.proofs.lemmas.Bool.{cases_Bool, cases_eq}
use Rattle.std.proofs.lemmas.List.{get_or_append_left, get_or-append_right, length-append, map-append, reverse-append}
use Rattle.std.proofs.lemmas.List.Concat.{flat_map-append}
use Rattle.std.proofs.lemmas.List.Elements.{Contains-append_cases, Contains-append_left, Contains-append_right}
use Rattle.std.proofs.lemmas.List.Kept.{AllPairs-cons}
use Rattle.psy_lists.proofs.lemmas.Members.{all_members, contains_behind, contains_front, contains_none, flat_map_from, front_or_behind, map_contains}
use Rattle.psy_lists.proofs.lemmas.Ordered.{pairs_append}
use Rattle.psy_lists.proofs.lemmas.Tests.{not_true}
use Rattle.std.proofs.lemmas.List.FromFn.{get_or-range_with_len, length-range_with_len}

-- ---- what is made of lists

pub flat_map_of_map : {X Y Z : Type 0} (f : Y → List Z) (g : X → Y) (xs : List X) → flat_map f (map g xs) ≡ flat_map (λ x. f (g x)) xs
flat_map_of_map f g [] = refl
flat_map_of_map f g (x ∷ xs) = ap (λ ys. f (g x) ++ ys) (flat_map_of_map f g xs)

pub flat_map_of_flat_map : {X Y Z : Type 0} (f : Y → List Z) (g : X → List Y) (xs : List X) → flat_map f (flat_map g xs) ≡ flat_map (λ x. flat_map f (g x)) xs
flat_map_of_flat_map f g [] = refl
flat_map_of_flat_map f g (x ∷ xs) = flat_map-append f (g x) (flat_map g xs) ∙ ap (λ ys. flat_map f (g x) ++ ys) (flat_map_of_flat_map f g xs)

pub flat_map_same : {X Y : Type 0} (f g : X → List Y) (xs : List X) → ((x : X) → Contains xs x → f x ≡ g x) → flat_map f xs ≡ flat_map g xs
flat_map_same f g [] same = refl
flat_map_same f g (x ∷ xs) same =
    ap (λ ys. ys ++ flat_map f xs) (same x (contains_front x xs)) ∙ ap (λ ys. g x ++ ys) (flat_map_same f g xs (λ y c. same y (contains_behind x xs y c)))

pub flat_map_none : {X Y : Type 0} (f : X → List Y) (xs : List X) → ((x : X) → Contains xs x → f x ≡ []) → flat_map f xs ≡ []
flat_map_none f [] none = refl
flat_map_none f (x ∷ xs) none =
    ap (λ ys. ys ++ flat_map f xs) (none x (contains_front x xs)) ∙ flat_map_none f xs (λ y c. none y (contains_behind x xs y c))

pub map_of_flat_map : {X Y Z : Type 0} (f : Y → Z) (g : X → List Y) (xs : List X) → map f (flat_map g xs) ≡ flat_map (λ x. map f (g x)) xs
map_of_flat_map f g [] = refl
map_of_flat_map f g (x ∷ xs) = map-append f (g x) (flat_map g xs) ∙ ap (λ ys. map f (g x) ++ ys) (map_of_flat_map f g xs)

-- ---- what a test picks

pub filter_append : {X : Type 0} (p : X → Bool) (xs ys : List X) → filter p (xs ++ ys) ≡ filter p xs ++ filter p ys
filter_append p [] ys = refl
filter_append p (x ∷ xs) ys = elim (cases_Bool (p x)) [
  | inl t ↦ rw t (ap (λ zs. x ∷ zs) (filter_append p xs ys))
  | inr f ↦ rw f (filter_append p xs ys)
]

pub filter_of_map : {X Y : Type 0} (p : Y → Bool) (f : X → Y) (xs : List X) → filter p (map f xs) ≡ map f (filter (λ x. p (f x)) xs)
filter_of_map p f [] = refl
filter_of_map p f (x ∷ xs) = elim (cases_Bool (p (f x))) [
  | inl t ↦ rw t (ap (λ zs. f x ∷ zs) (filter_of_map p f xs))
  | inr t ↦ rw t (filter_of_map p f xs)
]

pub filter_same : {X : Type 0} (p q : X → Bool) (xs : List X) → ((x : X) → Contains xs x → p x ≡ q x) → filter p xs ≡ filter q xs
filter_same p q [] same = refl
filter_same p q (x ∷ xs) same =
    ap (λ t. cond t (x ∷ filter p xs) (filter p xs)) (same x (contains_front x xs))
    ∙ ap (λ zs. cond (q x) (x ∷ zs) zs) (filter_same p q xs (λ y c. same y (contains_behind x xs y c)))

pub filter_all : {X : Type 0} (p : X → Bool) (xs : List X) → ((x : X) → Contains xs x → p x ≡ true) → filter p xs ≡ xs
filter_all p [] all = refl
filter_all p (x ∷ xs) all =
    ap (λ t. cond t (x ∷ filter p xs) (filter p xs)) (all x (contains_front x xs))
    ∙ ap (λ zs. x ∷ zs) (filter_all p xs (λ y c. all y (contains_behind x xs y c)))

pub filter_none : {X : Type 0} (p : X → Bool) (xs : List X) → ((x : X) → Contains xs x → p x ≡ false) → filter p xs ≡ []
filter_none p [] none = refl
filter_none p (x ∷ xs) none =
    ap (λ t. cond t (x ∷ filter p xs) (filter p xs)) (none x (contains_front x xs)) ∙ filter_none p xs (λ y c. none y (contains_behind x xs y c))

-- ---- what a test picks of lists by number, where what passes is of one of them

module _ {X : Type 0} (test : X → Bool) (lists : ℕ → List X) (k : ℕ) (only : (i : ℕ) (x : X) → Contains (lists i) x → test x ≡ true → i ≡ k) where
  none_picked : (i : ℕ) → (i ≡ k → ⊥) → filter test (lists i) ≡ []
  none_picked i other = filter_none test (lists i) (λ x c. not_true (test x) (λ (t : test x ≡ true). other (only i x c t)))

  -- none behind it
  picked_beyond : (from n : ℕ) → k < from → filter test (flat_map lists (range_with_len from n)) ≡ []
  picked_beyond from zero less = refl
  picked_beyond from (suc n) less =
      filter_append test (lists from) (flat_map lists (range_with_len (from + 1) n))
      ∙ ap (λ xs. xs ++ filter test (flat_map lists (range_with_len (from + 1) n))) (none_picked from (λ e. omega (arith, e, less)))
      ∙ picked_beyond (from + 1) n (omega (arith, less))

  pub picked : (from n : ℕ) → from ≤ k → k < from + n → filter test (flat_map lists (range_with_len from n)) ≡ filter test (lists k)
  picked from zero low high = absurd (omega (arith, low, high))
  picked from (suc n) low high =
      let rest = flat_map lists (range_with_len (from + 1) n) in
      filter_append test (lists from) rest ∙ elim (cases_eq from k) [
        | inl same ↦
            ap (λ xs. filter test (lists from) ++ xs) (picked_beyond (from + 1) n (omega (arith, same)))
            ∙ append-nil (filter test (lists from)) ∙ ap (λ i. filter test (lists i)) same
        | inr other ↦
            ap (λ xs. xs ++ filter test rest) (none_picked from other)
            ∙ picked (from + 1) n (omega (arith, low, other)) (omega (arith, high))
      ]

-- ---- where a list is split

-- What is made of the items of a list is split where the list is.
pub split_map : {X Y : Type 0} (f : X → Y) (xs : List X) (front : List Y) (y : Y) (back : List Y) → map f xs ≡ front ++ y ∷ back
    → (fs : List X) × (x : X) × (bs : List X) × (xs ≡ fs ++ x ∷ bs) × (map f fs ≡ front) × (f x ≡ y) × (map f bs ≡ back)
split_map f [] [] y back e = absurd cc
split_map f [] (z ∷ front) y back e = absurd cc
split_map f (x ∷ xs) [] y back e = ([], x, xs, refl, refl, (let first : f x ≡ y = cc in first), (let rest : map f xs ≡ back = cc in rest))
split_map f (x ∷ xs) (z ∷ front) y back e =
    let first : f x ≡ z = cc in
    let rest : map f xs ≡ front ++ y ∷ back = cc in
    let (fs, w, bs, is, same, at, behind) = split_map f xs front y back rest in
    (x ∷ fs, w, bs, ap (λ ys. x ∷ ys) is, ap (λ v. v ∷ map f fs) first ∙ ap (λ ys. z ∷ ys) same, at, behind)

-- A list with one item more is split at that one, or before it.
pub split_push : {X : Type 0} (xs : List X) (y : X) (front : List X) (x : X) (back : List X) → xs ++ y ∷ [] ≡ front ++ x ∷ back
    → ((xs ≡ front) × (y ≡ x)) ⊎ ((rest : List X) × (xs ≡ front ++ x ∷ rest))
split_push [] y [] x back e = inl (refl, cc)
split_push [] y (z ∷ []) x back e = absurd cc
split_push [] y (z ∷ w ∷ front) x back e = absurd cc
split_push (z ∷ xs) y [] x back e = inr (xs, (let first : z ≡ x = cc in ap (λ w. w ∷ xs) first))
split_push (z ∷ xs) y (w ∷ front) x back e =
    let first : z ≡ w = cc in
    let rest : xs ++ y ∷ [] ≡ front ++ x ∷ back = cc in
    elim (split_push xs y front x back rest) [
      | inl (same, at) ↦ inl (ap (λ v. v ∷ xs) first ∙ ap (λ ys. w ∷ ys) same, at)
      | inr (more, same) ↦ inr (more, ap (λ v. v ∷ xs) first ∙ ap (λ ys. w ∷ ys) same)
    ]

-- A split list has the item.
pub split_has : {X : Type 0} (xs front : List X) (x : X) (back : List X) → xs ≡ front ++ x ∷ back → Contains xs x
split_has xs front x back e = subst (λ ys. Contains ys x) (sym e) (Contains-append_right front (x ∷ back) x (contains_front x back))

-- It has what stands before the item.
pub split_front : {X : Type 0} (xs front : List X) (x : X) (back : List X) (y : X) → xs ≡ front ++ x ∷ back → Contains front y → Contains xs y
split_front xs front x back y e c = subst (λ ys. Contains ys y) (sym e) (Contains-append_left front (x ∷ back) y c)

-- What stands before it comes before it, where a list is in order.
pub split_pairs : {X : Type 0} (R : X → X → Type 0) (xs front : List X) (x : X) (back : List X) → xs ≡ front ++ x ∷ back → AllPairs R xs → (y : X) → Contains front y → R y x
split_pairs R xs front x back e pairs y (i, less, is) =
    let all : AllPairs R (front ++ x ∷ back) = subst (AllPairs R) e pairs in
    let long = length-append front (x ∷ back) in
    let at = get_or-append_right front (x ∷ back) (length front) (length front) y refl (omega arith) in
    let none : length front - length front ≡ 0 = omega arith in
    let last : get_or (front ++ x ∷ back) (length front) y ≡ x = at ∙ ap (λ n. get_or (x ∷ back) n y) none in
    subst (λ z. R z x) (get_or_append_left front (x ∷ back) y i less ∙ is) (subst (R (get_or (front ++ x ∷ back) i y)) last (all i (length front) y less (omega (arith, long))))

-- ---- turned round

pub reverse_front : {X : Type 0} (x : X) (xs : List X) → reverse (x ∷ xs) ≡ reverse xs ++ x ∷ []
reverse_front x xs = reverse-append (x ∷ []) xs

pub reverse_of_map : {X Y : Type 0} (f : X → Y) (xs : List X) → reverse (map f xs) ≡ map f (reverse xs)
reverse_of_map f [] = refl
reverse_of_map f (x ∷ xs) =
    reverse_front (f x) (map f xs) ∙ ap (λ ys. ys ++ f x ∷ []) (reverse_of_map f xs) ∙ sym (map-append f (reverse xs) (x ∷ [])) ∙ ap (map f) (sym (reverse_front x xs))

pub filter_of_reverse : {X : Type 0} (p : X → Bool) (xs : List X) → filter p (reverse xs) ≡ reverse (filter p xs)
filter_of_reverse p [] = refl
filter_of_reverse p (x ∷ xs) =
    ap (filter p) (reverse_front x xs) ∙ filter_append p (reverse xs) (x ∷ []) ∙ ap (λ ys. ys ++ filter p (x ∷ [])) (filter_of_reverse p xs)
    ∙ elim (cases_Bool (p x)) [
      | inl t ↦ rw t (sym (reverse_front x (filter p xs)))
      | inr f ↦ rw f (append-nil (reverse (filter p xs)))
    ]

pub contains_reverse : {X : Type 0} (xs : List X) (x : X) → Contains xs x → Contains (reverse xs) x
contains_reverse [] x c = c
contains_reverse (y ∷ xs) x c = subst (λ ys. Contains ys x) (sym (reverse_front y xs)) (elim (front_or_behind y xs x c) [
  | inl e ↦ Contains-append_right (reverse xs) (y ∷ []) x (subst (Contains (y ∷ [])) e (contains_front y []))
  | inr rest ↦ Contains-append_left (reverse xs) (y ∷ []) x (contains_reverse xs x rest)
])

pub reverse_contains : {X : Type 0} (xs : List X) (x : X) → Contains (reverse xs) x → Contains xs x
reverse_contains [] x c = c
reverse_contains (y ∷ xs) x c = elim (Contains-append_cases (reverse xs) (y ∷ []) x (subst (λ ys. Contains ys x) (reverse_front y xs) c)) [
  | inl rest ↦ contains_behind y xs x (reverse_contains xs x rest)
  | inr last ↦ elim (front_or_behind y [] x last) [
    | inl e ↦ subst (Contains (y ∷ xs)) e (contains_front y xs)
    | inr none ↦ absurd (contains_none x none)
  ]
]

pub pairs_reverse : {X : Type 0} (R : X → X → Type 0) (xs : List X) → AllPairs (λ x y. R y x) xs → AllPairs R (reverse xs)
pairs_reverse R [] pairs = λ i j d less within. absurd (omega (arith, less, within))
pairs_reverse R (x ∷ xs) pairs =
    let rest : AllPairs (λ x y. R y x) xs = λ i j d less within. pairs (suc i) (suc j) d (omega (arith, less)) (omega (arith, within)) in
    let one : AllPairs R (x ∷ []) = λ i j d less within. absurd (omega (arith, less, within)) in
    subst (AllPairs R) (sym (reverse_front x xs)) (pairs_append R (reverse xs) (x ∷ []) (pairs_reverse R xs rest) one (λ y z c last.
    elim (front_or_behind x [] z last) [
      | inl e ↦ (let (k, less, is) = reverse_contains xs y c in subst (λ w. R w z) is (subst (R _) e (pairs 0 (suc k) y (omega arith) (omega (arith, less)))))
      | inr none ↦ absurd (contains_none z none)
    ]))

pub pairs_map : {X Y : Type 0} (R : Y → Y → Type 0) (f : X → Y) (xs : List X) → AllPairs (λ x y. R (f x) (f y)) xs → AllPairs R (map f xs)
pairs_map R f [] pairs = λ i j d less within. absurd (omega (arith, less, within))
pairs_map R f (x ∷ xs) pairs =
    let rest : AllPairs (λ x y. R (f x) (f y)) xs = λ i j d less within. pairs (suc i) (suc j) d (omega (arith, less)) (omega (arith, within)) in
    AllPairs-cons R (f x) (map f xs)
    (all_members (R (f x)) (map f xs) (λ y c.
    let (z, (k, less, is), same) = map_contains f xs y c in
    subst (R (f x)) same (subst (λ w. R (f x) (f w)) is (pairs 0 (suc k) z (omega arith) (omega (arith, less))))))
    (pairs_map R f xs rest)

-- What stands in a range lies between its ends.
pub range_has : (from n k : ℕ) → Contains (range_with_len from n) k → (from ≤ k) × (k < from + n)
range_has from zero k c = absurd (contains_none k c)
range_has from (suc n) k c = elim (front_or_behind from (range_with_len (from + 1) n) k c) [
  | inl e ↦ (omega (arith, e), omega (arith, e))
  | inr rest ↦ (let (low, high) = range_has (from + 1) n k rest in (omega (arith, low), omega (arith, high)))
]

-- Numbers of a range rise.
pub range_rises : (from n : ℕ) → AllPairs (λ i k. i < k) (range_with_len from n)
range_rises from n i j d less within =
    let first = get_or-range_with_len from n i d (omega (arith, less, within, length-range_with_len from n)) in
    let second = get_or-range_with_len from n j d (omega (arith, within, length-range_with_len from n)) in
    omega (arith, first, second, less)

-- Lists one behind the other, made of items in order
pub pairs_flat_of : {X Y : Type 0} (S : X → X → Type 0) (R : Y → Y → Type 0) (f : X → List Y) (xs : List X) → AllPairs S xs → ((x : X) → Contains xs x → AllPairs R (f x))
    → ((x y : X) (a b : Y) → S x y → Contains (f x) a → Contains (f y) b → R a b) → AllPairs R (flat_map f xs)
pairs_flat_of S R f [] pairs each across = λ i j d less within. absurd (omega (arith, less, within))
pairs_flat_of S R f (x ∷ xs) pairs each across =
    let rest : AllPairs S xs = λ i j d less within. pairs (suc i) (suc j) d (omega (arith, less)) (omega (arith, within)) in
    pairs_append R (f x) (flat_map f xs) (each x (contains_front x xs)) (pairs_flat_of S R f xs rest (λ y c. each y (contains_behind x xs y c)) across) (λ a b c d.
    let (y, (k, less, is), there) = flat_map_from f xs b d in
    across x y a b (subst (S x) is (pairs 0 (suc k) y (omega arith) (omega (arith, less)))) c there)

-- Lists one behind the other, by number
pub pairs_flat_map : {X : Type 0} (R : X → X → Type 0) (lists : ℕ → List X) → ((i : ℕ) → AllPairs R (lists i)) → ((i k : ℕ) (x y : X) → i < k → Contains (lists i) x → Contains (lists k) y → R x y)
    → (from n : ℕ) → AllPairs R (flat_map lists (range_with_len from n))
pairs_flat_map R lists each across from n = pairs_flat_of (λ i k. i < k) R lists (range_with_len from n) (range_rises from n) (λ i c. each i) (λ i k x y. across i k x y)
