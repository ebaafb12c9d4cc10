-- Copies of the variables that an agent owns.
use Rattle.std.proofs.Common.{◌≡◌, ℕ, zero, suc, ◌+◌, List, [], ◌∷◌, ◌++◌, map, Some, refl, inl, inr, ap, subst, ◌∙◌, arith}
use Rattle.std.specs.Prelude.{IsSome, ◌==◌, slice_get}
use Rattle.std.proofs.lemmas.Bool.{cases_Bool, eq-eqb}
use Rattle.psy_code.specs.Execution.{Copy, copy_of}
use Rattle.psy_tree.specs.declared.unit.Unit.{Unit as Whole}
use Rattle.psy_tree.specs.declared.unit.VarDecl.{VarDecl}
use Rattle.psy_meaning.specs.Alike.{first_copies, owned_copy, owned_from}

found_behind : (variable : ℕ) (xs ys : List Copy) → IsSome (copy_of variable ys) → IsSome (copy_of variable (xs ++ ys))
found_behind variable [] ys h = h
found_behind variable (c ∷ xs) ys h = elim (cases_Bool (c.variable == variable)) [
  | inl t ↦ rw t refl
  | inr t ↦ rw t (found_behind variable xs ys h)
]

same_found : (variable : ℕ) (cs ds : List Copy) → map (λ c. c.variable) cs ≡ map (λ c. c.variable) ds → IsSome (copy_of variable ds) → IsSome (copy_of variable cs)
same_found variable [] [] e h = h
same_found variable [] (d ∷ ds) e h = cc
same_found variable (c ∷ cs) [] e h = cc
same_found variable (c ∷ cs) (d ∷ ds) e h =
    let head : c.variable ≡ d.variable = cc in
    elim (cases_Bool (d.variable == variable)) [
      | inl t ↦ rw (head, t) refl
      | inr t ↦ (
          let rest : map (λ c. c.variable) cs ≡ map (λ c. c.variable) ds = cc in
          let behind : IsSome (copy_of variable ds) = rw t at h in
          rw (head, t) (same_found variable cs ds rest behind))
    ]

owned_first : (number k : ℕ) (v : VarDecl) (rest : List VarDecl) → v.owner ≡ Some number → IsSome (copy_of k (owned_from number k (v ∷ rest)))
owned_first number k v rest e = rw (e, eq-eqb number number refl, eq-eqb k k refl) refl

owned_found : (number k i : ℕ) (vs : List VarDecl) (v : VarDecl) → slice_get vs i ≡ Some v → v.owner ≡ Some number → IsSome (copy_of (k + i) (owned_from number k vs))
owned_found number k i [] v at e = absurd (cc)
owned_found number k zero (w ∷ vs) v at e =
    let here : w ≡ v = cc in
    subst (λ n. IsSome (copy_of n (owned_from number k (w ∷ vs)))) (omega arith) (owned_first number k w vs (ap (λ (x : VarDecl). x.owner) here ∙ e))
owned_found number k (suc i) (w ∷ vs) v at e =
    subst (λ n. IsSome (copy_of n (owned_from number k (w ∷ vs)))) (omega arith) (found_behind (k + 1 + i) (owned_copy number k w w.owner) (owned_from number (k + 1) vs) (owned_found number (k + 1) i vs v at e))

-- An agent's copies have each variable that it owns
pub has_copy : (unit : Whole) (number variable : ℕ) (v : VarDecl) (copies : List Copy) → slice_get unit.variables variable ≡ Some v → v.owner ≡ Some number → map (λ c. c.variable) copies ≡ map (λ c. c.variable) (first_copies unit number) → IsSome (copy_of variable copies)
has_copy unit number variable v copies at owns same =
    let found = subst (λ n. IsSome (copy_of n (first_copies unit number))) (omega arith) (owned_found number 0 variable unit.variables v at owns) in
    same_found variable copies (first_copies unit number) same found
