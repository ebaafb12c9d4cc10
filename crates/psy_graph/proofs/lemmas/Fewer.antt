-- Of two lists that rise by an order that never holds both ways, one whose elements are all in the other is no longer.
use Rattle.std.proofs.Common.{◌≡◌, suc, ◌≤◌, ◌⊎◌, inl, inr, List, [], ◌∷◌, length, sym, subst, ◌∙◌, arith}
use Rattle.std.specs.List.{AllPairs, Contains}
use Rattle.psy_lists.proofs.lemmas.Members.{contains_behind, contains_front, contains_none, front_or_behind}

module _ {X : Type 0} (Before : X → X → Type 0) (strict : (x y : X) → Before x y → Before y x → ⊥) where
  rest_rises : (x : X) (xs : List X) → AllPairs Before (x ∷ xs) → AllPairs Before xs
  rest_rises x xs rise i j d l m = rise (suc i) (suc j) d (omega (arith, l)) (omega (arith, m))

  first_before : (x : X) (xs : List X) (z : X) → AllPairs Before (x ∷ xs) → Contains xs z → Before x z
  first_before x xs z rise (k, less, is) = subst (Before x) is (rise 0 (suc k) z (omega arith) (omega (arith, less)))

  -- What stands behind the first is not the first.
  behind_first : (x : X) (xs ys : List X) (z : X) → AllPairs Before (x ∷ xs) → Contains xs z → (x ≡ z) ⊎ Contains ys z → Contains ys z
  behind_first x xs ys z a c (inl is) = let r : Before x x = subst (Before x) (sym is) (first_before x xs z a c) in absurd (strict x x r r)
  behind_first x xs ys z a c (inr d) = d

  -- Where the first of all stands behind that of the others, none of them is that one.
  past_first : (x y : X) (xs ys : List X) (z : X) → AllPairs Before (x ∷ xs) → Before y x → (x ≡ z) ⊎ Contains xs z → (y ≡ z) ⊎ Contains ys z → Contains ys z
  past_first x y xs ys z a r c (inr d) = d
  past_first x y xs ys z a r (inl here) (inl is) =
      let e : x ≡ y = here ∙ sym is in
      let s : Before y y = subst (Before y) e r in
      absurd (strict y y s s)
  past_first x y xs ys z a r (inr c) (inl is) = absurd (strict x y (subst (Before x) (sym is) (first_before x xs z a c)) r)

  pub fewer : (ys xs : List X) → AllPairs Before ys → AllPairs Before xs → ((z : X) → Contains xs z → Contains ys z) → length xs ≤ length ys
  fewer ys [] b a each = omega arith
  fewer [] (x ∷ xs) b a each = absurd (contains_none x (each x (contains_front x xs)))
  fewer (y ∷ ys) (x ∷ xs) b a each = elim (front_or_behind y ys x (each x (contains_front x xs))) [
    | inl is ↦
        let same = subst (λ w. AllPairs Before (w ∷ xs)) (sym is) a in
        let shorter = fewer ys xs (rest_rises y ys b) (rest_rises x xs a) (λ z c. behind_first y xs ys z same c (front_or_behind y ys z (each z (contains_behind x xs z c)))) in
        omega (arith, shorter)
    | inr c ↦
        let r = first_before y ys x b c in
        let shorter = fewer ys (x ∷ xs) (rest_rises y ys b) a (λ z d. past_first x y xs ys z a r (front_or_behind x xs z d) (front_or_behind y ys z (each z d))) in
        omega (arith, shorter)
  ]
