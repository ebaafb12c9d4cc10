-- The figures of a run that goes on from a state are those of the state, as long as nothing was added.
use Rattle.std.proofs.Common.{◌≡◌, ℕ, zero, suc, ◌-◌, List, [], ◌∷◌, ◌++◌, map, Option, None, Some, refl, ap, sym, ◌∙◌, arith}
use Rattle.std.specs.List.{flat_map, range_with_len}
use Rattle.psy_base.specs.Extremes.{greatest_of, least_of, most_of}
use Rattle.psy_history.specs.Actions.{Action, History}
use Rattle.psy_history.specs.Summary.{added_to, at_least, dates_from, numbers_in}

pub none_added : (n : ℕ) → n ≡ added_to n 0
none_added zero = refl
none_added (suc n) = omega arith

pub least_one : (o : Option ℕ) → o ≡ least_of (numbers_in o ++ [])
least_one None = refl
least_one (Some n) = refl

pub greatest_one : (o : Option ℕ) → o ≡ greatest_of (numbers_in o ++ [])
greatest_one None = refl
greatest_one (Some n) = refl

pub none_listed : {X : Type 0} (f : Action → List X) (h : History) → ((agent : ℕ) → h agent ≡ []) → (agents : List ℕ)
    → flat_map (λ agent. flat_map f (h agent)) agents ≡ []
none_listed f h none [] = refl
none_listed f h none (agent ∷ agents) = ap (λ rs. flat_map f rs ++ flat_map (λ a. flat_map f (h a)) agents) (none agent) ∙ none_listed f h none agents

least_kept : (n : ℕ) → n ≡ at_least n 0
least_kept zero = refl
least_kept (suc n) = omega arith

-- No date lies behind the last one that was done before.
pub most_kept : (n date : ℕ) (f : ℕ → ℕ) → n ≡ at_least n (most_of (map f (dates_from (suc date) (suc date))))
most_kept n date f =
    let none : suc date - suc date ≡ 0 = omega arith in
    least_kept n ∙ sym (ap (λ k. at_least n (most_of (map f (range_with_len (suc date) k)))) none)
