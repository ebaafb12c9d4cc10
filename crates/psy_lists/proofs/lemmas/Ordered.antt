-- Lists whose elements stand in an order.
use Rattle.std.proofs.Common.{◌≡◌, suc, ◌+◌, ◌-◌, ◌<◌, ◌⊎◌, ◌↔◌, inl, inr, List, [], ◌∷◌, ◌++◌, length, length-append, get_or, refl, sym, ap, subst, ◌∙◌, arith}
use Rattle.std.specs.List.{AllPairs, Contains}
use Rattle.std.proofs.lemmas.Bool.{cases_lt}
use Rattle.std.proofs.lemmas.List.{get_or_append_left, get_or-append_right, get_or_default}
use Rattle.psy_lists.proofs.lemmas.Members.{contains_behind, contains_front, contains_none, front_or_behind}

-- One list behind another, where each of the one comes before each of the other
pub pairs_append : {X : Type 0} (R : X → X → Type 0) (xs ys : List X) → AllPairs R xs → AllPairs R ys → ((x y : X) → Contains xs x → Contains ys y → R x y) → AllPairs R (xs ++ ys)
pairs_append {X} R xs ys rx ry both i j d ij jl =
    let n = length xs in
    let len : length (xs ++ ys) ≡ n + length ys = length-append xs ys in
    elim (cases_lt j n) [
      | inl l ↦ subst (λ a. R a (get_or (xs ++ ys) j d)) (sym (get_or_append_left xs ys d i (omega (arith, ij, l)))) (subst (λ b. R (get_or xs i d) b) (sym (get_or_append_left xs ys d j l)) (rx i j d ij l))
      | inr g ↦ (
          let ej : get_or (xs ++ ys) j d ≡ get_or ys (j - n) d = get_or-append_right xs ys n j d refl g in
          let lj : j - n < length ys = omega (arith, g, jl, len) in
          elim (cases_lt i n) [
            | inl l ↦ (
                let ci : Contains xs (get_or xs i d) = (i, l, get_or_default xs i (get_or xs i d) d l) in
                let cj : Contains ys (get_or ys (j - n) d) = (j - n, lj, get_or_default ys (j - n) (get_or ys (j - n) d) d lj) in
                subst (λ a. R a (get_or (xs ++ ys) j d)) (sym (get_or_append_left xs ys d i l)) (subst (λ b. R (get_or xs i d) b) (sym ej) (both (get_or xs i d) (get_or ys (j - n) d) ci cj)))
            | inr gi ↦ subst (λ a. R a (get_or (xs ++ ys) j d)) (sym (get_or-append_right xs ys n i d refl gi)) (subst (λ b. R (get_or ys (i - n) d) b) (sym ej) (ry (i - n) (j - n) d (omega (arith, gi, g, ij)) lj))
          ])
    ]

-- ---- by an order that never holds both ways

module _ {X : Type 0} (Before : X → X → Type 0) (strict : (x y : X) → Before x y → Before y x → ⊥) where
  pairs_later : (x : X) (xs : List X) → AllPairs Before (x ∷ xs) → AllPairs Before xs
  pairs_later x xs rise i j d l m = rise (suc i) (suc j) d (omega (arith, l)) (omega (arith, m))

  before_later : (x : X) (xs : List X) (z : X) → AllPairs Before (x ∷ xs) → Contains xs z → Before x z
  before_later x xs z rise (k, less, is) = subst (Before x) is (rise 0 (suc k) z (omega arith) (omega (arith, less)))

  -- Two that each stand first or behind the other are the same.
  firsts : (x y : X) (xs ys : List X) → AllPairs Before (x ∷ xs) → AllPairs Before (y ∷ ys) → (y ≡ x) ⊎ Contains ys x → (x ≡ y) ⊎ Contains xs y → x ≡ y
  firsts x y xs ys a b (inl is) d = sym is
  firsts x y xs ys a b (inr c) (inl is) = is
  firsts x y xs ys a b (inr c) (inr d) = absurd (strict x y (before_later x xs y a d) (before_later y ys x b c))

  -- What stands behind the first is not the first.
  not_first : (x y : X) (xs ys : List X) (z : X) → x ≡ y → AllPairs Before (x ∷ xs) → Contains xs z → (y ≡ z) ⊎ Contains ys z → Contains ys z
  not_first x y xs ys z same a c (inl is) =
      let e : z ≡ x = sym (same ∙ is) in
      let r : Before x x = subst (Before x) e (before_later x xs z a c) in
      absurd (strict x x r r)
  not_first x y xs ys z same a c (inr d) = d

  -- Those with the same elements are the same.
  pub same_elements : (xs ys : List X) → AllPairs Before xs → AllPairs Before ys → ((z : X) → Contains xs z ↔ Contains ys z) → xs ≡ ys
  same_elements [] [] a b both = refl
  same_elements [] (y ∷ ys) a b both = absurd (contains_none y ((both y).1 (contains_front y ys)))
  same_elements (x ∷ xs) [] a b both = absurd (contains_none x ((both x).0 (contains_front x xs)))
  same_elements (x ∷ xs) (y ∷ ys) a b both =
      let same : x ≡ y = firsts x y xs ys a b (front_or_behind y ys x ((both x).0 (contains_front x xs))) (front_or_behind x xs y ((both y).1 (contains_front y ys))) in
      let on = λ (z : X) (c : Contains xs z). not_first x y xs ys z same a c (front_or_behind y ys z ((both z).0 (contains_behind x xs z c))) in
      let back = λ (z : X) (c : Contains ys z). not_first y x ys xs z (sym same) b c (front_or_behind x xs z ((both z).1 (contains_behind y ys z c))) in
      ap (λ w. w ∷ xs) same ∙ ap (λ ws. y ∷ ws) (same_elements xs ys (pairs_later x xs a) (pairs_later y ys b) (λ z. (on z, back z)))
