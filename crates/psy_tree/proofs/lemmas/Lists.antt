-- What stands at a place of a list.
use Rattle.std.proofs.Common.{◌≡◌, ◌⊎◌, ℕ, zero, suc, ◌+◌, ◌<◌, ◌≤◌, List, [], ◌∷◌, ◌++◌, map, take, length, Some, refl, ap, subst, ◌∙◌, inl, inr, arith, take_at, drop_at}
use Rattle.std.specs.Prelude.{slice_get}
use Rattle.std.specs.List.{All, flat_map}
use Rattle.std.proofs.lemmas.Option.{none-some, same_Some, slice_get_cases}
use Rattle.std.proofs.lemmas.List.Elements.{All-take, All-drop}

pub slice_get-behind : {A : Type 0} (xs ys : List A) (n : ℕ) → slice_get (xs ++ ys) (length xs + n) ≡ slice_get ys n
slice_get-behind [] ys n = ap (slice_get ys) (omega arith)
slice_get-behind (x ∷ xs) ys n = let e : suc (length xs) + n ≡ suc (length xs + n) = omega arith in ap (slice_get (x ∷ xs ++ ys)) e ∙ slice_get-behind xs ys n

pub slice_get-take : {A : Type 0} (n : ℕ) (xs : List A) (k : ℕ) → k < n → slice_get (take n xs) k ≡ slice_get xs k
slice_get-take zero xs k h = absurd (omega (arith, h))
slice_get-take (suc n) [] k h = refl
slice_get-take (suc n) (x ∷ xs) zero h = refl
slice_get-take (suc n) (x ∷ xs) (suc k) h = slice_get-take n xs k (omega (arith, h))

-- An element of two lists, one behind the other, is one of the first or one of the second.
pub slice_get-either : {A : Type 0} (xs ys : List A) (k : ℕ) (a : A) → slice_get (xs ++ ys) k ≡ Some a → (slice_get xs k ≡ Some a) ⊎ ((j : ℕ) × (k ≡ length xs + j) × (slice_get ys j ≡ Some a))
slice_get-either [] ys k a e = inr (k, omega arith, e)
slice_get-either (x ∷ xs) ys zero a e = inl e
slice_get-either (x ∷ xs) ys (suc k) a e = elim (slice_get-either xs ys k a e) [
  | inl there ↦ inl there
  | inr behind ↦ inr (behind.0, omega (arith, behind.1), behind.2)
]

pub only : {A : Type 0} (x a : A) → x ∷ [] ≡ a ∷ [] → x ≡ a
only x a e = same_Some x a (ap (λ l. slice_get l 0) e)

pub slice_get_mapped : {A B : Type 0} (f : A → B) (xs : List A) (k : ℕ) (b : B) → slice_get (map f xs) k ≡ Some b → (a : A) × (slice_get xs k ≡ Some a) × (Some (f a) ≡ Some b)
slice_get_mapped f [] k b e = absurd (none-some b e)
slice_get_mapped f (x ∷ xs) zero b e = (x, refl, e)
slice_get_mapped f (x ∷ xs) (suc k) b e = slice_get_mapped f xs k b e

pub All-front : {A : Type 0} (P : A → Type 0) (xs ys : List A) → All P (xs ++ ys) → All P xs
All-front P xs ys h = subst (All P) (take_at xs ys (length xs) refl) (All-take P (length xs) (xs ++ ys) h)

pub All-back : {A : Type 0} (P : A → Type 0) (xs ys : List A) → All P (xs ++ ys) → All P ys
All-back P xs ys h = subst (All P) (drop_at xs ys (length xs) refl) (All-drop P (length xs) (xs ++ ys) h)

pub All-flat_map : {A B : Type 0} (P : B → Type 0) (f : A → List B) (xs : List A) (k : ℕ) (x : A) → All P (flat_map f xs) → slice_get xs k ≡ Some x → All P (f x)
All-flat_map P f [] k x h own = absurd (none-some x own)
All-flat_map P f (y ∷ xs) zero x h own = subst (λ z. All P (f z)) (same_Some y x own) (All-front P (f y) (flat_map f xs) h)
All-flat_map P f (y ∷ xs) (suc k) x h own = All-flat_map P f xs k x (All-back P (f y) (flat_map f xs) h) own

-- Step by step over a list
pub upto : {A : Type 0} (xs : List A) (P : ℕ → Type 0) → P 0 → ((k : ℕ) (x : A) → slice_get xs k ≡ Some x → P k → P (k + 1)) → (k : ℕ) → k ≤ length xs → P k
upto xs P first next zero h = first
upto xs P first next (suc k) h = elim (slice_get_cases xs k).1 [
  | inl there ↦ (let e : k + 1 ≡ suc k = omega arith in subst P e (next k there.0 there.2 (upto xs P first next k (omega (arith, h)))))
  | inr past ↦ absurd (omega (arith, h, past.0))
]

-- Of the pairs of each thing and what a function gives of it, the things, and what it gives
pub map_firsts : {A B : Type 0} (f : A → B) (xs : List A) → map (λ (s : A × B). s.0) (map (λ x. (x, f x)) xs) ≡ xs
map_firsts f [] = refl
map_firsts f (x ∷ xs) = ap (λ r. x ∷ r) (map_firsts f xs)

pub map_seconds : {A B : Type 0} (f : A → B) (xs : List A) → map (λ (s : A × B). s.1) (map (λ x. (x, f x)) xs) ≡ map f xs
map_seconds f [] = refl
map_seconds f (x ∷ xs) = ap (λ r. f x ∷ r) (map_seconds f xs)
