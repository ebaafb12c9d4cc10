-- What holds of each in a list.
use Rattle.std.proofs.Common.{◌≡◌, List, [], ◌∷◌, ◌++◌, map, refl, sym, ap, subst, inl, inr}
use Rattle.psy_tree.proofs.lemmas.Among.{Among}
use Rattle.psy_meaning.specs.Sound.{Each}

pub each-append : {X : Type 0} (P : X → Type 0) (xs ys : List X) → Each P xs → Each P ys → Each P (xs ++ ys)
each-append P [] ys h k = k
each-append P (x ∷ xs) ys h k = (h.0, each-append P xs ys h.1 k)

pub each-first : {X : Type 0} (P : X → Type 0) (xs ys : List X) → Each P (xs ++ ys) → Each P xs
each-first P [] ys h = tt
each-first P (x ∷ xs) ys h = (h.0, each-first P xs ys h.1)

pub each-second : {X : Type 0} (P : X → Type 0) (xs ys : List X) → Each P (xs ++ ys) → Each P ys
each-second P [] ys h = h
each-second P (x ∷ xs) ys h = each-second P xs ys h.1

pub each-among : {X : Type 0} (P : X → Type 0) (xs : List X) → ((x : X) → Among x xs → P x) → Each P xs
each-among P [] h = tt
each-among P (x ∷ xs) h = (h x (inl refl), each-among P xs (λ y there. h y (inr there)))

-- One of them has it.
pub each-look : {X : Type 0} (P : X → Type 0) (xs : List X) (x : X) → Each P xs → Among x xs → P x
each-look P [] x h there = absurd there
each-look P (y ∷ ys) x h (inl e) = subst P (sym e) h.0
each-look P (y ∷ ys) x h (inr there) = each-look P ys x h.1 there

pub each-map : {X Y : Type 0} (v : X → Y) (f : Y → Type 0) (xs : List X) → Each (λ x. f (v x)) xs ≡ Each f (map v xs)
each-map v f [] = refl
each-map v f (x ∷ xs) = ap (λ t. f (v x) × t) (each-map v f xs)
