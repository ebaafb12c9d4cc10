-- Facts of all items of a list, and of all pairs, once an item is inserted.
use Rattle.std.proofs.Common.{◌≡◌, ℕ, ◌+◌, ◌-◌, ◌<◌, ◌≤◌, List, length, get_or, sym, ap, ◌∙◌, subst, inl, inr, arith}
use Rattle.std.proofs.lemmas.Bool.{cases_order, cases_lt}
use Rattle.std.proofs.lemmas.List.Edits.{length-insert, length-remove, get_or-insert_below, get_or-insert_at, get_or-insert_above, get_or-remove_below, get_or-remove_above}
use Rattle.std.specs.List.{All, AllPairs, Contains, insert, remove}

module _ {X : Type 0} (xs : List X) (i : ℕ) (y : X) (within : i ≤ length xs) where
  at_above : (k : ℕ) (d : X) → i < k → get_or (insert xs i y) k d ≡ get_or xs (k - 1) d
  at_above k d more =
      let same : k - 1 + 1 ≡ k = omega (arith, more) in
      ap (λ n. get_or (insert xs i y) n d) (sym same) ∙ get_or-insert_above xs i y d (k - 1) (omega (arith, more)) within

  pub all_insert : (P : X → Type 0) → All P xs → P y → All P (insert xs i y)
  all_insert P all here k d less = elim (cases_order k i) [
    | inl same ↦ subst P (sym (ap (λ n. get_or (insert xs i y) n d) same ∙ get_or-insert_at xs i y d within)) here
    | inr other ↦ elim other [
      | inl first ↦ subst P (sym (get_or-insert_below xs i y d k first within)) (all k d (omega (arith, first, within)))
      | inr last ↦ subst P (sym (at_above k d last)) (all (k - 1) d (omega (arith, last, less, length-insert xs i y within)))
    ]
  ]

  pub pairs_insert : (R : X → X → Type 0) → AllPairs R xs → ((k : ℕ) (d : X) → k < i → R (get_or xs k d) y) → ((k : ℕ) (d : X) → i ≤ k → k < length xs → R y (get_or xs k d)) → AllPairs R (insert xs i y)
  pairs_insert R pairs before behind a b d less small = elim (cases_order b i) [
    | inl same ↦
        let at : get_or (insert xs i y) b d ≡ y = ap (λ n. get_or (insert xs i y) n d) same ∙ get_or-insert_at xs i y d within in
        subst (R (get_or (insert xs i y) a d)) (sym at) (subst (λ x. R x y) (sym (get_or-insert_below xs i y d a (omega (arith, less, same)) within)) (before a d (omega (arith, less, same))))
    | inr other ↦ elim other [
      | inl first ↦
          subst (R (get_or (insert xs i y) a d)) (sym (get_or-insert_below xs i y d b first within))
          (subst (λ x. R x (get_or xs b d)) (sym (get_or-insert_below xs i y d a (omega (arith, less, first)) within)) (pairs a b d less (omega (arith, first, within))))
      | inr last ↦
          let inside : b - 1 < length xs = omega (arith, last, small, length-insert xs i y within) in
          subst (R (get_or (insert xs i y) a d)) (sym (at_above b d last)) (elim (cases_order a i) [
            | inl same ↦
                let at : get_or (insert xs i y) a d ≡ y = ap (λ n. get_or (insert xs i y) n d) same ∙ get_or-insert_at xs i y d within in
                subst (λ x. R x (get_or xs (b - 1) d)) (sym at) (behind (b - 1) d (omega (arith, last)) inside)
            | inr apart ↦ elim apart [
              | inl below ↦ subst (λ x. R x (get_or xs (b - 1) d)) (sym (get_or-insert_below xs i y d a below within)) (pairs a (b - 1) d (omega (arith, below, last)) inside)
              | inr above ↦ subst (λ x. R x (get_or xs (b - 1) d)) (sym (at_above a d above)) (pairs (a - 1) (b - 1) d (omega (arith, above, less)) inside)
            ]
          ])
    ]
  ]

  pub contains_inserted : Contains (insert xs i y) y
  contains_inserted = (i, omega (arith, within, length-insert xs i y within), get_or-insert_at xs i y y within)

  pub contains_insert : (x : X) → Contains xs x → Contains (insert xs i y) x
  contains_insert x has = elim (cases_lt has.0 i) [
    | inl first ↦ (has.0, omega (arith, has.1, length-insert xs i y within), get_or-insert_below xs i y x has.0 first within ∙ has.2)
    | inr last ↦ (has.0 + 1, omega (arith, has.1, length-insert xs i y within), get_or-insert_above xs i y x has.0 last within ∙ has.2)
  ]

module _ {X : Type 0} (xs : List X) (i : ℕ) (within : i < length xs) where
  -- All items but the removed one
  pub all_remove : (P : X → Type 0) → ((k : ℕ) (d : X) → k < length xs → (k ≡ i → ⊥) → P (get_or xs k d)) → All P (remove xs i)
  all_remove P all k d less = elim (cases_lt k i) [
    | inl first ↦ subst P (sym (get_or-remove_below xs i d k first within)) (all k d (omega (arith, first, within)) (λ e. omega (arith, e, first)))
    | inr last ↦ subst P (sym (get_or-remove_above xs i d k last within)) (all (k + 1) d (omega (arith, less, length-remove xs i within)) (λ e. omega (arith, e, last)))
  ]

  pub contains_remove : (x : X) (has : Contains xs x) → (has.0 ≡ i → ⊥) → Contains (remove xs i) x
  contains_remove x has apart = elim (cases_order has.0 i) [
    | inl same ↦ absurd (apart same)
    | inr other ↦ elim other [
      | inl first ↦ (has.0, omega (arith, first, within, length-remove xs i within), get_or-remove_below xs i x has.0 first within ∙ has.2)
      | inr last ↦
          let same : has.0 - 1 + 1 ≡ has.0 = omega (arith, last) in
          (has.0 - 1, omega (arith, last, has.1, length-remove xs i within), get_or-remove_above xs i x (has.0 - 1) (omega (arith, last)) within ∙ ap (λ n. get_or xs n x) same ∙ has.2)
    ]
  ]
