-- The first element of which something is found, by the place of what is found.
use Rattle.std.proofs.Common.{◌≡◌, ◌∙◌, refl, sym, ap, subst, ℕ, ◌+◌, ◌≤◌, Bool, true, false, cond, not, ltb, List, [], ◌∷◌, length, map, find, None, Some}
use Rattle.std.specs.Prelude.{slice_get}
use Rattle.std.specs.List.{position, position_or_len, prefix_len}
use Rattle.std.proofs.lemmas.Bool.{ltb-false}
use Rattle.std.proofs.lemmas.List.{length-map}
use Rattle.std.proofs.lemmas.List.Folds.{find_at}
use Rattle.std.proofs.lemmas.Option.{cond_some, none-some, slice_get_past}

module _ {X Y : Type 0} (p : Y → Bool) (f : X → Y) where
  front : (xs : List X) → prefix_len (λ y. not (p y)) (map f xs) ≡ prefix_len (λ x. not (p (f x))) xs
  front [] = refl
  front (x ∷ xs) = ap (λ n. cond (not (p (f x))) (1 + n) 0) (front xs)

  at_place : (xs : List X) → slice_get xs (position_or_len p (map f xs)) ≡ find (λ x. p (f x)) xs
  at_place xs = ap (slice_get xs) (front xs) ∙ sym (find_at (λ x. p (f x)) xs)

  pub found_at : (xs : List X) (place : ℕ) → Some place ≡ position p (map f xs) → slice_get xs place ≡ find (λ x. p (f x)) xs
  found_at xs place is =
      let same = (cond_some (ltb (position_or_len p (map f xs)) (length (map f xs))) (position_or_len p (map f xs)) place (sym is)).1 in
      ap (slice_get xs) (sym same) ∙ at_place xs

  pub found_nowhere : (xs : List X) → None ≡ position p (map f xs) → None ≡ find (λ x. p (f x)) xs
  found_nowhere xs is = by (ltb (position_or_len p (map f xs)) (length (map f xs))) refl
    where
      by : (t : Bool) → ltb (position_or_len p (map f xs)) (length (map f xs)) ≡ t → None ≡ find (λ x. p (f x)) xs
      by true e = absurd (none-some _ (is ∙ ap (λ t. cond t (Some (position_or_len p (map f xs))) None) e))
      by false e =
          let beyond : length xs ≤ position_or_len p (map f xs) =
          subst (λ n. n ≤ position_or_len p (map f xs)) (length-map xs f) (ltb-false (position_or_len p (map f xs)) (length (map f xs)) e) in
          sym (slice_get_past xs (position_or_len p (map f xs)) beyond) ∙ at_place xs
