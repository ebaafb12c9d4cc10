-- The value of a variable among those of all that its owner has.
use Rattle.std.proofs.Common.{◌≡◌, ℕ, zero, suc, ◌+◌, ◌<◌, Bool, true, false, List, [], ◌∷◌, ◌++◌, length, get_or, take, Option, Some, None, refl, sym, ap, ◌∙◌, inl, inr, arith, length-append}
use Rattle.std.specs.Prelude.{◌⊎◌, if◌then◌else◌, slice_get, ◌==◌, ℤ, pos}
use Rattle.std.proofs.lemmas.Bool.{cases_eq, cond-true, cond-false, eq-eqb, ne_eqb}
use Rattle.psy_code.specs.Execution.{Copy, copy_of}
use Rattle.psy_meaning.specs.Alike.{owned_copy, owned_from}
use Rattle.psy_meaning.specs.States.{value_or_zero}
use Rattle.psy_tree.specs.declared.unit.VarDecl.{VarDecl}
use Rattle.psy_dates.specs.Beginnings.{with_values}

-- ---- how many

-- An agent owns a variable once or not at all.
pub owned_or_not : (agent first : ℕ) (v : VarDecl) (owner : Option ℕ) → (owned_copy agent first v owner ≡ []) ⊎ (owned_copy agent first v owner ≡ record { variable = first; value = v.init } ∷ [])
owned_or_not agent first v None = inl refl
owned_or_not agent first v (Some owner) = elim (cases_eq owner agent) [
  | inl same ↦ inr (cond-true (owner == agent) (record { variable = first; value = v.init } ∷ []) [] (eq-eqb owner agent same))
  | inr other ↦ inl (cond-false (owner == agent) (record { variable = first; value = v.init } ∷ []) [] (ne_eqb owner agent other))
]

by_test : (owns : Bool) (c d : Copy) → length (if owns then c ∷ [] else []) ≡ length (if owns then d ∷ [] else [])
by_test true c d = refl
by_test false c d = refl

-- How many they are doesn't depend on the numbers.
pub same_count : (agent first other : ℕ) (v : VarDecl) (owner : Option ℕ) → length (owned_copy agent first v owner) ≡ length (owned_copy agent other v owner)
same_count agent first other v None = refl
same_count agent first other v (Some owner) = by_test (owner == agent) (record { variable = first; value = v.init }) (record { variable = other; value = v.init })

with_next : (agent first number : ℕ) (vs : List VarDecl) (place : ℕ) (d : VarDecl) → place < length vs
    → length (owned_from agent first (take (suc place) vs)) ≡ length (owned_from agent first (take place vs)) + length (owned_copy agent number (get_or vs place d) (get_or vs place d).owner)
with_next agent first number [] place d l = absurd (omega (arith, l))
with_next agent first number (v ∷ vs) zero d l =
    let one : length (owned_from agent first (take 1 (v ∷ vs))) ≡ length (owned_copy agent first v v.owner) + 0 = length-append (owned_copy agent first v v.owner) [] in
    let same : length (owned_from agent first (take 1 (v ∷ vs))) ≡ 0 + length (owned_copy agent number v v.owner) = omega (arith, one, same_count agent first number v v.owner) in
    same
with_next agent first number (v ∷ vs) (suc place) d l =
    let here = owned_copy agent first v v.owner in
    let rest = with_next agent (first + 1) number vs place d (omega (arith, l)) in
    let long : length (owned_from agent first (take (suc (suc place)) (v ∷ vs))) ≡ length here + length (owned_from agent (first + 1) (take (suc place) vs)) = length-append here (owned_from agent (first + 1) (take (suc place) vs)) in
    let short : length (owned_from agent first (take (suc place) (v ∷ vs))) ≡ length here + length (owned_from agent (first + 1) (take place vs)) = length-append here (owned_from agent (first + 1) (take place vs)) in
    let other : ℕ = length (owned_copy agent number (get_or vs place d) (get_or vs place d).owner) in
    let all : length (owned_from agent first (take (suc (suc place)) (v ∷ vs))) ≡ length (owned_from agent first (take (suc place) (v ∷ vs))) + other = omega (arith, rest, long, short) in
    all

-- With one variable more they are as many, or one more.
pub owned_more : (agent first number : ℕ) (vs : List VarDecl) (place : ℕ) (d : VarDecl) → place < length vs
    → length (owned_from agent first (take (place + 1) vs)) ≡ length (owned_from agent first (take place vs)) + length (owned_copy agent number (get_or vs place d) (get_or vs place d).owner)
owned_more agent first number vs place d l =
    let next : place + 1 ≡ suc place = omega arith in
    ap (λ n. length (owned_from agent first (take n vs))) next ∙ with_next agent first number vs place d l

-- ---- which one

-- The first copy is that of the variable.
first_value : (first : ℕ) (c : Copy) (copies : List Copy) (values : List ℤ) → c.variable ≡ first → value_or_zero (copy_of (first + zero) (with_values (c ∷ copies) values)) ≡ get_or values 0 (pos 0)
first_value first c copies [] is = refl
first_value first c copies (x ∷ xs) is =
    ap value_or_zero (cond-true (c.variable == first + zero) (Some x) (copy_of (first + zero) (with_values copies xs)) (eq-eqb c.variable (first + zero) (omega (arith, is))))

-- Behind the copy of an earlier variable it is among the others.
later_value : (first place count : ℕ) (c : Copy) (copies : List Copy) → c.variable ≡ first
    → ((values : List ℤ) → value_or_zero (copy_of (first + suc place) (with_values copies values)) ≡ get_or values count (pos 0))
    → (values : List ℤ) → value_or_zero (copy_of (first + suc place) (with_values (c ∷ copies) values)) ≡ get_or values (suc count) (pos 0)
later_value first place count c copies is later [] = refl
later_value first place count c copies is later (x ∷ xs) =
    ap value_or_zero (cond-false (c.variable == first + suc place) (Some x) (copy_of (first + suc place) (with_values copies xs)) (ne_eqb c.variable (first + suc place) (λ e. omega (arith, e, is))))
    ∙ later xs

pub own_value : (agent first : ℕ) (vs : List VarDecl) (place : ℕ) (v : VarDecl) (values : List ℤ) → slice_get vs place ≡ Some v → v.owner ≡ Some agent
    → value_or_zero (copy_of (first + place) (with_values (owned_from agent first vs) values)) ≡ get_or values (length (owned_from agent first (take place vs))) (pos 0)
own_value agent first [] place v values at owned = cc
own_value agent first (w ∷ vs) zero v values at owned =
    let same : w ≡ v = cc in
    let one : owned_copy agent first w w.owner ≡ record { variable = first; value = w.init } ∷ [] =
    ap (λ (x : VarDecl). owned_copy agent first w x.owner) same ∙ ap (owned_copy agent first w) owned ∙ cond-true (agent == agent) (record { variable = first; value = w.init } ∷ []) [] (eq-eqb agent agent refl) in
    ap (λ copies. value_or_zero (copy_of (first + zero) (with_values (copies ++ owned_from agent (first + 1) vs) values))) one
    ∙ first_value first (record { variable = first; value = w.init }) (owned_from agent (first + 1) vs) values refl
own_value agent first (w ∷ vs) (suc place) v values at owned =
    let number : first + suc place ≡ first + 1 + place = omega arith in
    let later : (values : List ℤ) → value_or_zero (copy_of (first + suc place) (with_values (owned_from agent (first + 1) vs) values)) ≡ get_or values (length (owned_from agent (first + 1) (take place vs))) (pos 0) =
    λ values. ap (λ n. value_or_zero (copy_of n (with_values (owned_from agent (first + 1) vs) values))) number ∙ own_value agent (first + 1) vs place v values at owned in
    elim (owned_or_not agent first w w.owner) [
      | inl none ↦
          ap (λ copies. value_or_zero (copy_of (first + suc place) (with_values (copies ++ owned_from agent (first + 1) vs) values))) none
          ∙ later values
          ∙ ap (λ copies. get_or values (length (copies ++ owned_from agent (first + 1) (take place vs))) (pos 0)) (sym none)
      | inr one ↦
          ap (λ copies. value_or_zero (copy_of (first + suc place) (with_values (copies ++ owned_from agent (first + 1) vs) values))) one
          ∙ later_value first place (length (owned_from agent (first + 1) (take place vs))) (record { variable = first; value = w.init }) (owned_from agent (first + 1) vs) refl later values
          ∙ ap (λ copies. get_or values (length (copies ++ owned_from agent (first + 1) (take place vs))) (pos 0)) (sym one)
    ]
