-- The first element that doesn't pass.
use Rattle.std.proofs.Common.{◌≡◌, ℕ, ◌<◌, Bool, true, false, not, List, [], ◌∷◌, length, refl, get_or, Some, None, ap, arith}
use Rattle.std.specs.List.{position, position_or_len}
use Rattle.std.proofs.lemmas.Bool.Decides.{nat_tests}
use Rattle.std.proofs.lemmas.List.Sums.{position_or_len_is}

module _ {X : Type 0} (passes : X → Bool) where
  -- The first that doesn't pass is found.
  pub failing_found : (xs : List X) (i : ℕ) (d : X) → i < length xs → ((k : ℕ) (d : X) → k < i → passes (get_or xs k d) ≡ true) → passes (get_or xs i d) ≡ false → position (λ x. not (passes x)) xs ≡ Some i
  failing_found xs i d within before fails =
      let first : position_or_len (λ x. not (passes x)) xs ≡ i = position_or_len_is (λ x. not (passes x)) xs i d (omega (arith, within)) (λ k under. ap not (before k d under)) (λ _. ap not fails) in
      grind (arith, nat_tests)

  -- Where all pass, none is found.
  pub failing_never : (xs : List X) → ((k : ℕ) (d : X) → k < length xs → passes (get_or xs k d) ≡ true) → position (λ x. not (passes x)) xs ≡ None
  failing_never [] all = refl
  failing_never (d ∷ xs) all =
      let first : position_or_len (λ x. not (passes x)) (d ∷ xs) ≡ length (d ∷ xs) = position_or_len_is (λ x. not (passes x)) (d ∷ xs) (length (d ∷ xs)) d (omega arith) (λ k under. ap not (all k d under)) (λ past. absurd (omega (arith, past))) in
      grind (arith, nat_tests)
