-- The first place of a list at which a test passes.
use Rattle.std.proofs.Common.{◌≡◌, ℕ, ◌≤◌, Bool, true, false, List, [], ◌∷◌, length, get_or, Option, Some, None, refl, sym, ap, ◌∙◌, arith}
use Rattle.std.specs.Prelude.{slice_get}
use Rattle.std.specs.List.{list_any, position, position_or_len}
use Rattle.std.proofs.lemmas.Bool.{false≢true, false_from_ne_true}
use Rattle.std.proofs.lemmas.Bool.Decides.{nat_tests}
use Rattle.std.proofs.lemmas.List.Folds.{Any-from_list_any, list_any_at}
use Rattle.std.proofs.lemmas.List.Quantifiers.{position-Some}
use Rattle.std.proofs.lemmas.List.Sums.{fails_before_first, position_or_len_is}
use Rattle.std.proofs.lemmas.Option.{get_or_from_slice_get, slice_get_within, slice_get-get_or}

module _ {X : Type 0} (passes : X → Bool) where
  -- What stands at the place that is found passes.
  pub position_found : (xs : List X) (i : ℕ) → position passes xs ≡ Some i → (x : X) × (slice_get xs i ≡ Some x) × (passes x ≡ true)
  position_found [] i e = absurd (let no : ◌≡◌ {A = Option ℕ} None (Some i) = e in cc)
  position_found (x ∷ xs) i e = let found = position-Some passes (x ∷ xs) i x e in (get_or (x ∷ xs) i x, slice_get-get_or (x ∷ xs) i x found.0, found.1)

  -- Where none is found, none passes.
  pub none_found : (xs : List X) → position passes xs ≡ None → list_any passes xs ≡ false
  none_found xs e =
      false_from_ne_true (list_any passes xs)
      (λ any. let one = Any-from_list_any passes xs any in
      let behind : length xs ≤ position_or_len passes xs = grind (arith, nat_tests) in
      let fails = fails_before_first passes xs one.0 one.1 (omega (arith, one.2, behind)) in
      false≢true (sym fails ∙ ap passes one.3 ∙ one.4))

  -- A place is found where something passes there, and nowhere else.
  pub position_only : (xs : List X) (i : ℕ) (x : X) → slice_get xs i ≡ Some x → passes x ≡ true → ((k : ℕ) (y : X) → slice_get xs k ≡ Some y → passes y ≡ true → k ≡ i) → position passes xs ≡ Some i
  position_only xs i x at here only =
      let within = slice_get_within xs i x at in
      let first : position_or_len passes xs ≡ i = position_or_len_is passes xs i x (omega (arith, within))
      (λ k before. false_from_ne_true _ (λ too. absurd (omega (arith, before, only k (get_or xs k x) (slice_get-get_or xs k x (omega (arith, before, within))) too))))
      (λ _. ap passes (get_or_from_slice_get xs i x x at) ∙ here) in
      grind (arith, nat_tests)

  -- None is found where none passes.
  pub position_never : (xs : List X) → list_any passes xs ≡ false → position passes xs ≡ None
  position_never [] e = refl
  position_never (x ∷ xs) e =
      let first : position_or_len passes (x ∷ xs) ≡ length (x ∷ xs) = position_or_len_is passes (x ∷ xs) (length (x ∷ xs)) x (omega arith)
      (λ k before. false_from_ne_true _ (λ too. false≢true (sym e ∙ list_any_at passes (x ∷ xs) k x before too)))
      (λ past. absurd (omega (arith, past))) in
      grind (arith, nat_tests)

  -- Something passes where a place is found.
  pub found_any : (xs : List X) (i : ℕ) → position passes xs ≡ Some i → list_any passes xs ≡ true
  found_any [] i e = absurd (let no : ◌≡◌ {A = Option ℕ} None (Some i) = e in cc)
  found_any (x ∷ xs) i e = let found = position-Some passes (x ∷ xs) i x e in list_any_at passes (x ∷ xs) i x found.0 found.1
