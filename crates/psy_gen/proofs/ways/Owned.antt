-- The variables that an agent owns are some of the program's.
use Rattle.std.proofs.Common.{◌≡◌, ℕ, zero, suc, ◌+◌, ◌<◌, List, [], ◌∷◌, ◌++◌, map, length, Option, Some, None, inl, inr, arith}
use Rattle.std.specs.Prelude.{slice_get, ◌==◌}
use Rattle.std.proofs.lemmas.Bool.{cases_Bool}
use Rattle.psy_code.specs.Execution.{Copy}
use Rattle.psy_tree.specs.declared.unit.VarDecl.{VarDecl}
use Rattle.psy_meaning.specs.Alike.{owned_copy, owned_from}
use Rattle.psy_gen.proofs.Basics.{no_some, some_is}

abbrev names_of : List Copy → List ℕ
names_of copies = map (λ c. c.variable) copies

module _ (agent number bound variable : ℕ) (less : number < bound) (rest : List Copy)
    (later : (place : ℕ) → slice_get (names_of rest) place ≡ Some variable → variable < bound) where
  first_low : (place : ℕ) → slice_get (number ∷ names_of rest) place ≡ Some variable → variable < bound
  first_low zero got = omega (arith, some_is number variable got, less)
  first_low (suc place) got = later place got

  behind_low : (v : VarDecl) (owner : Option ℕ) (place : ℕ) → slice_get (names_of (owned_copy agent number v owner ++ rest)) place ≡ Some variable
      → variable < bound
  behind_low v None place got = later place got
  behind_low v (Some owner) place got = elim (cases_Bool (owner == agent)) [
    | inl t ↦ (let here : slice_get (number ∷ names_of rest) place ≡ Some variable = rw t at got in first_low place here)
    | inr t ↦ (let here : slice_get (names_of rest) place ≡ Some variable = rw t at got in later place here)
  ]

pub owned_low : (agent number bound place variable : ℕ) (vs : List VarDecl) → number + length vs ≡ bound
    → slice_get (map (λ c. c.variable) (owned_from agent number vs)) place ≡ Some variable → variable < bound
owned_low agent number bound place variable [] whole got = no_some variable got
owned_low agent number bound place variable (v ∷ vs) whole got =
    behind_low agent number bound variable (omega (arith, whole)) (owned_from agent (number + 1) vs)
    (λ next. owned_low agent (number + 1) bound next variable vs (omega (arith, whole))) v v.owner place got
