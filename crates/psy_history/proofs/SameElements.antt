-- What is the same of each element of a list is the same of the list.
use Rattle.std.proofs.Common.{◌≡◌, Bool, true, false, cond, List, [], ◌∷◌, map, refl, ap, ap₂, ◌∙◌}
use Rattle.std.specs.Prelude.{filter}
use Rattle.std.specs.List.{Contains}
use Rattle.psy_lists.proofs.lemmas.Members.{contains_front, contains_behind}

-- Two tests that agree at each element keep the same ones.
pub filter_each : {X : Type 0} (p q : X → Bool) (xs : List X) → ((x : X) → Contains xs x → p x ≡ q x) → filter p xs ≡ filter q xs
filter_each p q [] same = refl
filter_each p q (x ∷ xs) same =
    ap (λ t. cond t (x ∷ filter p xs) (filter p xs)) (same x (contains_front x xs))
    ∙ ap (λ kept. cond (q x) (x ∷ kept) kept) (filter_each p q xs (λ y c. same y (contains_behind x xs y c)))

-- A test that each element passes keeps all,
pub filter_all : {X : Type 0} (p : X → Bool) (xs : List X) → ((x : X) → Contains xs x → p x ≡ true) → filter p xs ≡ xs
filter_all p [] passes = refl
filter_all p (x ∷ xs) passes =
    ap (λ t. cond t (x ∷ filter p xs) (filter p xs)) (passes x (contains_front x xs))
    ∙ ap (λ kept. x ∷ kept) (filter_all p xs (λ y c. passes y (contains_behind x xs y c)))

-- and one that none passes keeps none.
pub filter_no : {X : Type 0} (p : X → Bool) (xs : List X) → ((x : X) → Contains xs x → p x ≡ false) → filter p xs ≡ []
filter_no p [] fails = refl
filter_no p (x ∷ xs) fails =
    ap (λ t. cond t (x ∷ filter p xs) (filter p xs)) (fails x (contains_front x xs))
    ∙ filter_no p xs (λ y c. fails y (contains_behind x xs y c))

-- Two functions that agree at each element give the same list.
pub map_each : {X Y : Type 0} (f g : X → Y) (xs : List X) → ((x : X) → Contains xs x → f x ≡ g x) → map f xs ≡ map g xs
map_each f g [] same = refl
map_each f g (x ∷ xs) same =
    ap₂ (λ y ys. y ∷ ys) (same x (contains_front x xs)) (map_each f g xs (λ y c. same y (contains_behind x xs y c)))
