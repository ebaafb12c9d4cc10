-- The numbers that have something, in rising order, one number after the other.
use Rattle.std.proofs.Common.{◌≡◌, ℕ, ◌+◌, ◌<◌, ◌≤◌, Bool, true, false, List, [], ◌∷◌, ◌++◌, get_or, refl, sym, subst, inl, inr, arith}
use Rattle.std.specs.Prelude.{◌↔◌}
use Rattle.std.specs.List.{AllPairs, Contains}
use Rattle.std.proofs.lemmas.Bool.{cases_lt, false≢true}
use Rattle.std.proofs.lemmas.List.{append-nil}
use Rattle.std.proofs.lemmas.List.Elements.{Contains-append_left, Contains-push, Contains-push_cases, Contains-get_or}
use Rattle.std.proofs.lemmas.List.Quantifiers.{all_pairs_push}
use Rattle.std.proofs.lemmas.Option.{slice_get_within, get_or_from_slice_get}
use Rattle.psy_meaning.specs.Flow.{Rises}
use Rattle.psy_flow.specs.Listed.{AreBelow, AreNumbers, if_so}

rises_of_pairs : (xs : List ℕ) → AllPairs (λ a b. a < b) xs → Rises xs
rises_of_pairs xs pairs i j m n less at also =
    let inside = slice_get_within xs j n also in
    let first = get_or_from_slice_get xs i m 0 at in
    let second = get_or_from_slice_get xs j n 0 also in
    omega (arith, pairs i j 0 less inside, first, second)

module _ (Has : ℕ → Type 0) where
  pub none_below : AreBelow Has 0 []
  none_below = record {
    rise = λ i j d less inside. absurd (omega (arith, inside));
    each = λ number. ((λ c. absurd (omega (arith, c.1))), (λ (less, has). absurd (omega (arith, less))));
  }

  -- Where the next number has it too
  pub with_one : (below : ℕ) (xs : List ℕ) → AreBelow Has below xs → Has below → AreBelow Has (below + 1) (xs ++ below ∷ [])
  with_one below xs kept may = record {
    rise = all_pairs_push (λ a b. a < b) xs below kept.rise (λ k d inside. ((kept.each (get_or xs k d)).0 (Contains-get_or xs k d inside)).0);
    each = λ number. (
      (λ c. elim (Contains-push_cases xs below number c) [
        | inl before ↦ (let (less, has) = (kept.each number).0 before in (omega (arith, less), has))
        | inr is ↦ (omega (arith, is), subst Has is may)
      ]),
      (λ (less, has). elim (cases_lt number below) [
        | inl under ↦ Contains-append_left xs (below ∷ []) number ((kept.each number).1 (under, has))
        | inr above ↦ (let is : below ≡ number = omega (arith, less, above) in subst (Contains (xs ++ below ∷ [])) is (Contains-push xs below))
      ]),
    );
  }

  -- Where it doesn't
  pub without : (below : ℕ) (xs : List ℕ) → AreBelow Has below xs → (Has below → ⊥) → AreBelow Has (below + 1) xs
  without below xs kept none = record {
    rise = kept.rise;
    each = λ number. (
      (λ c. let (less, has) = (kept.each number).0 c in (omega (arith, less), has)),
      (λ (less, has). elim (cases_lt number below) [
        | inl under ↦ (kept.each number).1 (under, has)
        | inr above ↦ (let is : number ≡ below = omega (arith, less, above) in absurd (none (subst Has is has)))
      ]),
    );
  }

  -- Where none of the next so many does
  pub without_more : (below more : ℕ) (xs : List ℕ) → AreBelow Has below xs → ((number : ℕ) → below ≤ number → number < below + more → Has number → ⊥) → AreBelow Has (below + more) xs
  without_more below more xs kept none = record {
    rise = kept.rise;
    each = λ number. (
      (λ c. let (less, has) = (kept.each number).0 c in (omega (arith, less), has)),
      (λ (less, has). elim (cases_lt number below) [
        | inl under ↦ (kept.each number).1 (under, has)
        | inr above ↦ absurd (none number (omega (arith, above)) less has)
      ]),
    );
  }

  pub one_more : (below : ℕ) (xs : List ℕ) (so : Bool) → AreBelow Has below xs → ((so ≡ true) ↔ Has below) → AreBelow Has (below + 1) (xs ++ if_so so below)
  one_more below xs true kept told = with_one below xs kept (told.0 refl)
  one_more below xs false kept told = subst (AreBelow Has (below + 1)) (sym (append-nil xs)) (without below xs kept (λ may. false≢true (told.1 may)))

  pub all_below : (bound : ℕ) (xs : List ℕ) → AreBelow Has bound xs → ((number : ℕ) → Has number → number < bound) → AreNumbers Has xs
  all_below bound xs kept inside = record {
    rise = rises_of_pairs xs kept.rise;
    each = λ number. ((λ c. ((kept.each number).0 c).1), (λ has. (kept.each number).1 (inside number has, has)));
  }
