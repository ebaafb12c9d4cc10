-- What stands in a list, and what holds of all that does.
use Rattle.std.proofs.Common.{◌≡◌, ◌⊎◌, ℕ, zero, suc, Bool, true, List, [], ◌∷◌, map, get_or, refl, sym, ap, ◌∙◌, subst, inl, inr, arith}
use Rattle.std.specs.Prelude.{filter}
use Rattle.std.specs.List.{All, Contains, flat_map}
use Rattle.std.proofs.lemmas.Bool.{cases_Bool}
use Rattle.std.proofs.lemmas.List.{get_or-map, length-map}
use Rattle.std.proofs.lemmas.List.Elements.{All-contains, All-contains_itself, All-filter, All-head, All-tail, All-weaker, Contains-append_cases, Contains-append_left, Contains-append_right, filter_passes}

-- ---- members

pub contains_none : {X : Type 0} (x : X) → Contains [] x → ⊥
contains_none x c = omega (arith, c.1)

pub contains_front : {X : Type 0} (x : X) (xs : List X) → Contains (x ∷ xs) x
contains_front x xs = (zero, omega arith, refl)

pub contains_behind : {X : Type 0} (y : X) (xs : List X) (x : X) → Contains xs x → Contains (y ∷ xs) x
contains_behind y xs x c = (suc c.0, omega (arith, c.1), c.2)

pub front_or_behind : {X : Type 0} (y : X) (xs : List X) (x : X) → Contains (y ∷ xs) x → (y ≡ x) ⊎ Contains xs x
front_or_behind y xs x (zero, l, e) = inl e
front_or_behind y xs x (suc k, l, e) = inr (k, omega (arith, l), e)

pub contains_map : {X Y : Type 0} (f : X → Y) (xs : List X) (x : X) → Contains xs x → Contains (map f xs) (f x)
contains_map f xs x (k, l, e) = (k, omega (arith, l, length-map xs f), get_or-map f xs k x (f x) l ∙ ap f e)

-- An item of a mapped list is that of some item.
pub map_contains : {X Y : Type 0} (f : X → Y) (xs : List X) (y : Y) → Contains (map f xs) y → (x : X) × Contains xs x × (f x ≡ y)
map_contains f [] y (k, l, e) = absurd (omega (arith, l))
map_contains f (x ∷ xs) y (zero, l, e) = (x, (0, omega arith, refl), e)
map_contains f (x ∷ xs) y (suc k, l, e) =
    let (z, (i, less, is), same) = map_contains f xs y (k, omega (arith, l), e) in
    (z, (suc i, omega (arith, less), is), same)

pub filter_in : {X : Type 0} (test : X → Bool) (xs : List X) (x : X) → Contains xs x → test x ≡ true → Contains (filter test xs) x
filter_in test [] x c t = c
filter_in test (y ∷ xs) x c t = elim (front_or_behind y xs x c) [
  | inl e ↦ (let passes : test y ≡ true = ap test e ∙ t in rw passes (subst (Contains (y ∷ filter test xs)) e (contains_front y (filter test xs))))
  | inr rest ↦ elim (cases_Bool (test y)) [
    | inl passes ↦ rw passes (contains_behind y (filter test xs) x (filter_in test xs x rest t))
    | inr fails ↦ rw fails (filter_in test xs x rest t)
  ]
]

pub filter_from : {X : Type 0} (test : X → Bool) (xs : List X) (x : X) → Contains (filter test xs) x → Contains xs x × (test x ≡ true)
filter_from test xs x c = (
  All-contains (Contains xs) (filter test xs) x (All-filter test (Contains xs) xs (All-contains_itself xs)) c,
  All-contains (λ y. test y ≡ true) (filter test xs) x (filter_passes test xs) c,
)

pub flat_map_in : {X Y : Type 0} (f : X → List Y) (xs : List X) (x : X) (y : Y) → Contains xs x → Contains (f x) y → Contains (flat_map f xs) y
flat_map_in f [] x y c h = absurd (contains_none x c)
flat_map_in f (z ∷ xs) x y c h = elim (front_or_behind z xs x c) [
  | inl e ↦ Contains-append_left (f z) (flat_map f xs) y (subst (λ w. Contains (f w) y) (sym e) h)
  | inr rest ↦ Contains-append_right (f z) (flat_map f xs) y (flat_map_in f xs x y rest h)
]

pub flat_map_from : {X Y : Type 0} (f : X → List Y) (xs : List X) (y : Y) → Contains (flat_map f xs) y → (x : X) × Contains xs x × Contains (f x) y
flat_map_from f [] y c = absurd (contains_none y c)
flat_map_from f (x ∷ xs) y c = elim (Contains-append_cases (f x) (flat_map f xs) y c) [
  | inl here ↦ (x, contains_front x xs, here)
  | inr rest ↦ (let (z, there, within) = flat_map_from f xs y rest in (z, contains_behind x xs z there, within))
]

-- ---- all of them

pub all_members : {X : Type 0} (P : X → Type 0) (xs : List X) → ((x : X) → Contains xs x → P x) → All P xs
all_members P xs each = All-weaker (Contains xs) P each xs (All-contains_itself xs)

pub all_flat_map : {X Y : Type 0} (P : Y → Type 0) (f : X → List Y) (xs : List X) → ((x : X) → Contains xs x → All P (f x)) → All P (flat_map f xs)
all_flat_map P f xs each = all_members P (flat_map f xs) (λ y c. let (x, there, within) = flat_map_from f xs y c in All-contains P (f x) y (each x there) within)

-- Also past the end, where the default has it
pub get_or_holds : {X : Type 0} (P : X → Type 0) (xs : List X) (i : ℕ) (d : X) → P d → All P xs → P (get_or xs i d)
get_or_holds P [] i d h all = h
get_or_holds P (x ∷ xs) zero d h all = All-head P x xs all
get_or_holds P (x ∷ xs) (suc i) d h all = get_or_holds P xs i d h (All-tail P x xs all)

-- What holds of all that is made of a list's elements holds of what they are made of.
pub all_unmapped : {X Y : Type 0} (P : Y → Type 0) (f : X → Y) (xs : List X) → All P (map f xs) → All (λ x. P (f x)) xs
all_unmapped P f xs all k d less = subst P (get_or-map f xs k d (f d) less) (all k (f d) (omega (arith, less, length-map xs f)))
