-- What a loop carries along.
use Rattle.std.proofs.Common.{◌≡◌, ℕ, ◌+◌, ◌<◌, ◌≤◌, List, [], ◌++◌, length, map, take, get_or, sym, ap, subst, append_assoc, ◌∙◌}
use Rattle.std.specs.List.{flat_map}
use Rattle.std.proofs.lemmas.List.{flat_map_more, take_all, take_more}

-- What one more element adds
pub carried : {X A : Type 0} (P : List A → Type 0) (f : X → List A) (before : List A) (xs : List X) (i : ℕ) (d : X) → i < length xs → P ((before ++ flat_map f (take i xs)) ++ f (get_or xs i d)) → P (before ++ flat_map f (take (i + 1) xs))
carried P f before xs i d within h = subst P (flat_map_more f before (take i xs) (get_or xs i d) ∙ ap (λ ys. before ++ flat_map f ys) (sym (take_more xs i d within))) h

-- What all elements added
pub carried_all : {X A : Type 0} (P : List A → Type 0) (f : X → List A) (before : List A) (xs : List X) (i : ℕ) → length xs ≤ i → P (before ++ flat_map f (take i xs)) → P (before ++ flat_map f xs)
carried_all P f before xs i all h = subst P (ap (λ ys. before ++ flat_map f ys) (take_all i xs all)) h

-- What one more element names, of elements that have names
pub named_more : {X A B : Type 0} (h : B → A) (g : X → List A) (xs : List X) (i : ℕ) (d : X) (old now new : List B) → i < length xs → map h now ≡ map h old ++ flat_map g (take i xs)
    → map h new ≡ map h now ++ g (get_or xs i d) → map h new ≡ map h old ++ flat_map g (take (i + 1) xs)
named_more h g xs i d old now new within before more =
    carried (λ t. map h new ≡ map h old ++ t) g [] xs i d within (more ∙ ap (λ t. t ++ g (get_or xs i d)) before ∙ append_assoc (map h old) (flat_map g (take i xs)) (g (get_or xs i d)))
