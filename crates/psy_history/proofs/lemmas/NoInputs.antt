-- Inputs without lists are what a program's inputs have to be.
use Rattle.std.proofs.Common.{◌≡◌, ℕ, zero, suc, List, [], ◌∷◌, map, get_or, Some, sym, subst, arith}
use Rattle.std.specs.Prelude.{ℤ, slice_get}
use Rattle.std.proofs.lemmas.List.{length-map}
use Rattle.std.proofs.lemmas.Option.{slice_get-get_or}
use Rattle.psy_tree.specs.declared.unit.Unit.{Unit as Whole}
use Rattle.psy_meaning.specs.Alike.{AllFit}
use Rattle.psy_history.specs.Compiled.{AreInputs}

empty_at : {X : Type 0} (xs : List X) (i : ℕ) (list : List ℤ) → slice_get (map (λ x. []) xs) i ≡ Some list → list ≡ []
empty_at [] i list at = cc
empty_at (x ∷ xs) zero list at = cc
empty_at (x ∷ xs) (suc i) list at = empty_at xs i list at

pub are_no_inputs : (unit : Whole) → AreInputs unit (map (λ v. []) unit.variables)
are_no_inputs unit =
    let lists : List (List ℤ) = map (λ v. []) unit.variables in
    record {
      count = length-map unit.variables (λ v. []);
      values = λ k d less. subst AllFit (sym (empty_at unit.variables k (get_or lists k d) (slice_get-get_or lists k d less))) (λ i e none. absurd (omega (arith, none)));
      owned = λ variable owner list is at. empty_at unit.variables variable list at;
    }
