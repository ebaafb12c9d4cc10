-- What is among the things of a list.
use Rattle.std.proofs.Common.{◌≡◌, ◌⊎◌, zero, suc, List, [], ◌∷◌, ◌++◌, sym, inl, inr, arith}
use Rattle.std.specs.List.{Contains}

abbrev pub Among : {A : Type 0} → A → List A → Type 0
Among x [] = ⊥
Among x (y ∷ ys) = (x ≡ y) ⊎ Among x ys

pub among : {A : Type 0} (x : A) (xs : List A) → Contains xs x → Among x xs
among x [] c = absurd (omega (arith, c.1))
among x (y ∷ ys) (zero, h, e) = inl (sym e)
among x (y ∷ ys) (suc k, h, e) = inr (among x ys (k, omega arith, e))

pub contains : {A : Type 0} (x : A) (xs : List A) → Among x xs → Contains xs x
contains x [] h = absurd h
contains x (y ∷ ys) (inl e) = (0, omega arith, sym e)
contains x (y ∷ ys) (inr h) = let c : Contains ys x = contains x ys h in (suc c.0, omega (arith, c.1), c.2)

pub among_right : {A : Type 0} (x : A) (xs ys : List A) → Among x ys → Among x (xs ++ ys)
among_right x [] ys h = h
among_right x (z ∷ xs) ys h = inr (among_right x xs ys h)

pub among_left : {A : Type 0} (x : A) (xs ys : List A) → Among x xs → Among x (xs ++ ys)
among_left x [] ys h = absurd h
among_left x (z ∷ xs) ys (inl e) = inl e
among_left x (z ∷ xs) ys (inr h) = inr (among_left x xs ys h)
