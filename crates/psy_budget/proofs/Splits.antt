-- What the stalls of an action cost before one instruction more.
use Rattle.std.proofs.Common.{◌≡◌, ℕ, zero, suc, ◌+◌, ◌<◌, ◌≤◌, cond, ◌==◌, ◌&&◌, nat_lt, List, [], ◌∷◌, length, Some, get_or, slice_get, refl, sym, ◌∙◌, subst, inl, inr, arith}
use Rattle.std.specs.List.{sum_by}
use Rattle.std.proofs.lemmas.Bool.{cases_order}
use Rattle.std.proofs.lemmas.Bool.Decides.{nat_tests}
use Rattle.std.proofs.lemmas.Option.{slice_get_within, get_or_from_slice_get, slice_get-get_or}
use Rattle.std.proofs.lemmas.List.Sums.{sum_by-cons}
use Rattle.psy_budget.specs.declared.charge.Stall.{Stall}
use Rattle.psy_budget.specs.Charges.{IsBelow, StallsRise, stalled}
use Rattle.psy_budget.specs.Standing.{IsAtLeast, AreSplit}

-- Two sums over the same items are the same where each item counts the same.
sum_same : {X : Type 0} (f g : X → ℕ) (xs : List X) → ((i : ℕ) (d : X) → i < length xs → f (get_or xs i d) ≡ g (get_or xs i d)) → sum_by f xs ≡ sum_by g xs
sum_same f g [] h = refl
sum_same f g (x ∷ xs) h = omega (arith, sum_by-cons f x xs, sum_by-cons g x xs, h 0 x (omega arith), sum_same f g xs (λ i d small. h (suc i) d (omega (arith, small))))

-- They differ by what one item counts more.
sum_one : {X : Type 0} (f g : X → ℕ) (xs : List X) (place c : ℕ) → place < length xs → ((i : ℕ) (d : X) → i < length xs → (i ≡ place → ⊥) → f (get_or xs i d) ≡ g (get_or xs i d)) → ((d : X) → f (get_or xs place d) ≡ g (get_or xs place d) + c)
    → sum_by f xs ≡ sum_by g xs + c
sum_one f g [] place c small others here = omega (arith, small)
sum_one f g (x ∷ xs) zero c small others here =
    omega (arith, sum_by-cons f x xs, sum_by-cons g x xs, here x, sum_same f g xs (λ i d less. others (suc i) d (omega (arith, less)) (λ e. omega (arith, e))))
sum_one f g (x ∷ xs) (suc place) c small others here =
    omega (arith, sum_by-cons f x xs, sum_by-cons g x xs, others 0 x (omega arith) (λ e. omega (arith, e)), sum_one f g xs place c (omega (arith, small)) (λ i d less differs. others (suc i) d (omega (arith, less)) (λ e. differs (omega (arith, e)))) here)

module _ (action n : ℕ) where
  abbrev cost : ℕ → Stall → ℕ
  cost m s = cond (s.action == action && nat_lt s.instr m) s.cycles 0

  below_costs : (s : Stall) → IsBelow action n s → cost (n + 1) s ≡ cost n s
  below_costs s (inl h) = grind (arith, nat_tests)
  below_costs s (inr h) = grind (arith, nat_tests)

  none_at_least : (m : ℕ) (s : Stall) → IsAtLeast action m s → cost m s ≡ 0
  none_at_least m s (inl h) = grind (arith, nat_tests)
  none_at_least m s (inr h) = grind (arith, nat_tests)

  others_cost : (s : Stall) → IsAtLeast action (n + 1) s → cost (n + 1) s ≡ cost n s
  others_cost s (inl h) = none_at_least (n + 1) s (inl h) ∙ sym (none_at_least n s (inl h))
  others_cost s (inr h) = none_at_least (n + 1) s (inr h) ∙ sym (none_at_least n s (inr (h.0, omega (arith, h.1))))

  below_more : (s : Stall) → IsBelow action n s → IsBelow action (n + 1) s
  below_more s (inl h) = inl h
  below_more s (inr h) = inr (h.0, omega (arith, h.1))

  -- behind a stall at or behind the next instruction
  behind : (m : ℕ) (s t : Stall) → IsAtLeast action m s → IsBelow t.action t.instr s → IsAtLeast action m t
  behind m s t (inl a) (inl b) = inl (omega (arith, a, b))
  behind m s t (inl a) (inr b) = inl (omega (arith, a, b.0))
  behind m s t (inr a) (inl b) = inl (omega (arith, a.0, b))
  behind m s t (inr a) (inr b) = inr (omega (arith, a.0, b.0), omega (arith, a.1, b.1))

  -- right behind the stall before the next instruction
  right_behind : (s t : Stall) → s.action ≡ action → s.instr ≡ n → IsBelow t.action t.instr s → IsAtLeast action (n + 1) t
  right_behind s t a i (inl b) = inl (omega (arith, a, b))
  right_behind s t a i (inr b) = inr (omega (arith, a, b.0), omega (arith, i, b.1))

  -- the stall before instruction n
  pays : (s : Stall) → s.action ≡ action → s.instr ≡ n → cost (n + 1) s ≡ cost n s + s.cycles
  pays s a i = grind (arith, nat_tests)

  -- one at or behind instruction n that isn't the stall before it
  not_here : (s : Stall) → IsAtLeast action n s → (s.action ≡ action → s.instr ≡ n → ⊥) → IsAtLeast action (n + 1) s
  not_here s (inl h) none = inl h
  not_here s (inr h) none = elim (cases_order s.instr n) [
    | inl same ↦ absurd (none h.0 same)
    | inr other ↦ elim other [ inl first ↦ absurd (omega (arith, first, h.1)) | inr last ↦ inr (h.0, omega (arith, last)) ]
  ]

  -- a place, and those before it
  each_side : (P : Stall → Type 0) (stalls : List Stall) (place : ℕ) → ((k : ℕ) (d : Stall) → k < place → P (get_or stalls k d)) → ((d : Stall) → P (get_or stalls place d)) → (k : ℕ) (d : Stall) → k < place + 1 → P (get_or stalls k d)
  each_side P stalls place before here k d less =
      elim (cases_order k place) [
        | inl same ↦ subst (λ m. P (get_or stalls m d)) (sym same) (here d)
        | inr other ↦ elim other [ inl first ↦ before k d first | inr last ↦ absurd (omega (arith, less, last)) ]
      ]

  -- The stall at the place is the one before instruction n.
  pub one_more : (stalls : List Stall) (place : ℕ) (s : Stall) → StallsRise stalls → AreSplit stalls place action n → slice_get stalls place ≡ Some s → s.action ≡ action → s.instr ≡ n
      → AreSplit stalls (place + 1) action (n + 1) × (stalled stalls action (n + 1) ≡ stalled stalls action n + s.cycles)
  one_more stalls place s rise split at a i =
      let small : place < length stalls = slice_get_within stalls place s at in
      let is : (d : Stall) → get_or stalls place d ≡ s = λ d. get_or_from_slice_get stalls place s d at in
      let later : (k : ℕ) (d : Stall) → place < k → k < length stalls → IsAtLeast action (n + 1) (get_or stalls k d) =
      λ k d more less. right_behind s (get_or stalls k d) a i (subst (λ t. IsBelow (get_or stalls k d).action (get_or stalls k d).instr t) (is d) (rise place k d more less)) in
      let here : (d : Stall) → IsBelow action (n + 1) (get_or stalls place d) = λ d. subst (IsBelow action (n + 1)) (sym (is d)) (inr (a, omega (arith, i))) in
      let earlier : (k : ℕ) (d : Stall) → k < place → IsBelow action (n + 1) (get_or stalls k d) = λ k d less. below_more (get_or stalls k d) (split.below k d less) in
      let costs : (d : Stall) → cost (n + 1) (get_or stalls place d) ≡ cost n (get_or stalls place d) + s.cycles = λ d. subst (λ t. cost (n + 1) t ≡ cost n t + s.cycles) (sym (is d)) (pays s a i) in
      let others : (k : ℕ) (d : Stall) → k < length stalls → (k ≡ place → ⊥) → cost (n + 1) (get_or stalls k d) ≡ cost n (get_or stalls k d) =
      λ k d less differs. elim (cases_order k place) [
        | inl same ↦ absurd (differs same)
        | inr other ↦ elim other [ inl first ↦ below_costs (get_or stalls k d) (split.below k d first) | inr last ↦ others_cost (get_or stalls k d) (later k d last less) ]
      ] in (
        record { within = omega (arith, small); below = each_side (IsBelow action (n + 1)) stalls place earlier here; others = λ k d more less. later k d (omega (arith, more)) less },
        sum_one (cost (n + 1)) (cost n) stalls place s.cycles small others costs,
      )

  -- No stall stands before instruction n: none at the place does.
  pub none_more : (stalls : List Stall) (place : ℕ) → StallsRise stalls → AreSplit stalls place action n → ((s : Stall) → slice_get stalls place ≡ Some s → s.action ≡ action → s.instr ≡ n → ⊥)
      → AreSplit stalls place action (n + 1) × (stalled stalls action (n + 1) ≡ stalled stalls action n)
  none_more stalls place rise split none =
      let at : (d : Stall) → place < length stalls → IsAtLeast action (n + 1) (get_or stalls place d) =
      λ d less. not_here (get_or stalls place d) (split.others place d (omega arith) less) (none (get_or stalls place d) (slice_get-get_or stalls place d less)) in
      let later : (k : ℕ) (d : Stall) → place ≤ k → k < length stalls → IsAtLeast action (n + 1) (get_or stalls k d) =
      λ k d more less. elim (cases_order k place) [
        | inl same ↦ subst (λ m. IsAtLeast action (n + 1) (get_or stalls m d)) (sym same) (at d (omega (arith, same, less)))
        | inr other ↦ elim other [
          | inl first ↦ absurd (omega (arith, more, first))
          | inr last ↦ behind (n + 1) (get_or stalls place d) (get_or stalls k d) (at d (omega (arith, last, less))) (rise place k d last less)
        ]
      ] in
      let each : (k : ℕ) (d : Stall) → k < length stalls → cost (n + 1) (get_or stalls k d) ≡ cost n (get_or stalls k d) =
      λ k d less. elim (cases_order k place) [
        | inl same ↦ others_cost (get_or stalls k d) (later k d (omega (arith, same)) less)
        | inr other ↦ elim other [ inl first ↦ below_costs (get_or stalls k d) (split.below k d first) | inr last ↦ others_cost (get_or stalls k d) (later k d (omega (arith, last)) less) ]
      ] in (
        record { within = split.within; below = λ k d less. below_more (get_or stalls k d) (split.below k d less); others = later },
        sum_same (cost (n + 1)) (cost n) stalls each,
      )
