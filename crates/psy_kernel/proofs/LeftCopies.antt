-- Working copies of the variables that an agent owns, by the values of these.
use Rattle.std.proofs.Common.{◌≡◌, ℕ, zero, suc, ◌+◌, ◌≤◌, ◌==◌, Bool, true, false, if◌then◌else◌, List, [], ◌∷◌, ◌++◌, map, slice_get, Option, Some, None, ℤ, refl, sym, ap, ◌∙◌, inl, inr, arith}
use Rattle.std.proofs.lemmas.Bool.{cases_Bool, cond-false, cond-true, eq-eqb, eqb-true, ne_eqb}
use Rattle.psy_code.specs.declared.code.CopyInit.{CopyInit}
use Rattle.psy_code.specs.Execution.{Copy, copy_of}
use Rattle.psy_dates.specs.Beginnings.{with_values}
use Rattle.psy_lists.proofs.lemmas.Places.{mapped, mapped_from}
use Rattle.psy_meaning.specs.Alike.{owned_copy, owned_from}
use Rattle.psy_tree.specs.declared.unit.VarDecl.{VarDecl}
use Rattle.psy_dates.proofs.lemmas.OwnCopies.{own_owned, owned_own}

-- The variables of copies
abbrev pub names_of : List Copy → List ℕ
names_of copies = map (λ (c : Copy). c.variable) copies

-- The variables of what copies begin with
abbrev pub names_in : List CopyInit → List ℕ
names_in own = map (λ (c : CopyInit). c.variable) own

-- What two functions make of a list is the same where they agree on its items.
pub same_map : {X Y : Type 0} (f g : X → Y) (xs : List X) → ((place : ℕ) (x : X) → slice_get xs place ≡ Some x → f x ≡ g x) → map f xs ≡ map g xs
same_map f g [] same = refl
same_map f g (x ∷ xs) same = ap (λ y. y ∷ map f xs) (same 0 x refl) ∙ ap (λ ys. g x ∷ ys) (same_map f g xs (λ place. same (suc place)))

-- The same copies with the values that their variables have
abbrev pub valued : (ℕ → ℤ) → List Copy → List Copy
valued f copies = map (λ (c : Copy). record c { value = f c.variable }) copies

pub with_values_is : (f : ℕ → ℤ) (copies : List Copy) (own : List CopyInit) → names_in own ≡ names_of copies → with_values copies (map (λ (c : CopyInit). f c.variable) own) ≡ valued f copies
with_values_is f [] own same = refl
with_values_is f (c ∷ copies) [] same = absurd (cc)
with_values_is f (c ∷ copies) (o ∷ own) same =
    let first : o.variable ≡ c.variable = cc in
    let rest : names_in own ≡ names_of copies = cc in
    ap (λ n. record c { value = f n } ∷ with_values copies (map (λ (x : CopyInit). f x.variable) own)) first
    ∙ ap (λ xs. record c { value = f c.variable } ∷ xs) (with_values_is f copies own rest)

-- The copy of a variable has the variable's value.
pub valued_at : (f : ℕ → ℤ) (copies : List Copy) (place : ℕ) (c : Copy) → slice_get copies place ≡ Some c → copy_of c.variable (valued f copies) ≡ Some (f c.variable)
valued_at f [] place c at = absurd (cc)
valued_at f (d ∷ copies) zero c at =
    let same : d ≡ c = cc in
    let variable : d.variable ≡ c.variable = ap (λ (x : Copy). x.variable) same in
    cond-true (d.variable == c.variable) (Some (f d.variable)) (copy_of c.variable (valued f copies)) (eq-eqb d.variable c.variable variable) ∙ ap (λ n. Some (f n)) variable
valued_at f (d ∷ copies) (suc place) c at = elim (cases_Bool (d.variable == c.variable)) [
  | inl same ↦ cond-true (d.variable == c.variable) (Some (f d.variable)) (copy_of c.variable (valued f copies)) same ∙ ap (λ n. Some (f n)) (eqb-true d.variable c.variable same)
  | inr other ↦ cond-false (d.variable == c.variable) (Some (f d.variable)) (copy_of c.variable (valued f copies)) other ∙ valued_at f copies place c at
]

-- Copies of the same variables that have these values
pub valued_are : (f : ℕ → ℤ) (copies others : List Copy) → names_of others ≡ names_of copies → ((place : ℕ) (c : Copy) → slice_get others place ≡ Some c → c.value ≡ f c.variable) → valued f copies ≡ others
valued_are f [] [] same values = refl
valued_are f [] (o ∷ others) same values = absurd (cc)
valued_are f (c ∷ copies) [] same values = absurd (cc)
valued_are f (c ∷ copies) (o ∷ others) same values =
    let first : o.variable ≡ c.variable = cc in
    let rest : names_of others ≡ names_of copies = cc in
    let value : f c.variable ≡ o.value = ap f (sym first) ∙ sym (values 0 o refl) in
    let one : ◌≡◌ {A = Copy} (record { variable = c.variable; value = f c.variable }) o =
    ap (λ n. record { variable = n; value = f c.variable }) (sym first) ∙ ap (λ x. record { variable = o.variable; value = x }) value in
    ap (λ x. x ∷ valued f copies) one ∙ ap (λ xs. o ∷ xs) (valued_are f copies others rest (λ place. values (suc place)))

-- ---- copies of what an agent owns

-- What begins with a copy's own value
abbrev init_of : Copy → CopyInit
init_of c = record { variable = c.variable; init = c.value }

abbrev own_with : List Copy → List CopyInit
own_with copies = map init_of copies

own_names : (copies : List Copy) → names_in (own_with copies) ≡ names_of copies
own_names [] = refl
own_names (c ∷ copies) = ap (λ ns. c.variable ∷ ns) (own_names copies)

module _ (agent : ℕ) (variables : List VarDecl) (copies : List Copy) (is : names_of copies ≡ names_of (owned_from agent 0 variables)) where
  -- each is of a variable that the agent owns,
  pub copy_owned : (place : ℕ) (c : Copy) → slice_get copies place ≡ Some c → (v : VarDecl) × (slice_get variables c.variable ≡ Some v) × (v.owner ≡ Some agent)
  copy_owned place c at =
      own_owned agent variables (own_with copies) (own_names copies ∙ is) place (record { variable = c.variable; init = c.value })
      (mapped init_of copies place c at)

  -- and each of these has one.
  pub owned_copy_in : (variable : ℕ) (v : VarDecl) → slice_get variables variable ≡ Some v → v.owner ≡ Some agent → (place : ℕ) × (c : Copy) × (slice_get copies place ≡ Some c) × (c.variable ≡ variable)
  owned_copy_in variable v at owned =
      let found = owned_own agent variables (own_with copies) (own_names copies ∙ is) variable v at owned in
      let copy = mapped_from init_of copies found.0 found.1 found.2 in
      (found.0, copy.0, copy.1, ap (λ (x : CopyInit). x.variable) copy.2 ∙ found.3)

-- ---- no variable has two copies

-- The first copy of its variable is the one at a place, and its variable is no earlier than this one.
record IsOnly (first : ℕ) (copies : List Copy) (c : Copy) : Type 0 where
  late : first ≤ c.variable
  found : copy_of c.variable copies ≡ Some c.value

only_behind : (first : ℕ) (d : Copy) (copies : List Copy) (c : Copy) → d.variable ≡ first → IsOnly (first + 1) copies c → IsOnly first (d ∷ copies) c
only_behind first d copies c is only = record {
  late = omega (arith, only.late);
  found = cond-false (d.variable == c.variable) (Some d.value) (copy_of c.variable copies) (ne_eqb d.variable c.variable (λ e. absurd (omega (arith, e, is, only.late)))) ∙ only.found;
}

module _ (agent first : ℕ) (v : VarDecl) (later : List Copy) (c : Copy)
    (tail : (cs : List Copy) → names_of cs ≡ names_of later → (n : ℕ) → slice_get cs n ≡ Some c → IsOnly (first + 1) cs c) where
  less : (cs : List Copy) → IsOnly (first + 1) cs c → IsOnly first cs c
  less cs only = record { late = omega (arith, only.late); found = only.found }

  only_here : (cs : List Copy) → names_of cs ≡ first ∷ names_of later → (n : ℕ) → slice_get cs n ≡ Some c → IsOnly first cs c
  only_here [] e n there = absurd (cc)
  only_here (d ∷ cs) e zero there =
      let here : d ≡ c = cc in
      let is : d.variable ≡ first = cc in
      let variable : d.variable ≡ c.variable = ap (λ (x : Copy). x.variable) here in
      record {
        late = omega (arith, is, variable);
        found = cond-true (d.variable == c.variable) (Some d.value) (copy_of c.variable cs) (eq-eqb d.variable c.variable variable) ∙ ap (λ (x : Copy). Some x.value) here;
      }
  only_here (d ∷ cs) e (suc n) there =
      let is : d.variable ≡ first = cc in
      let rest : names_of cs ≡ names_of later = cc in
      only_behind first d cs c is (tail cs rest n there)

  only_by : (b : Bool) (cs : List Copy) → names_of cs ≡ names_of ((if b then record { variable = first; value = v.init } ∷ [] else []) ++ later) → (n : ℕ) → slice_get cs n ≡ Some c → IsOnly first cs c
  only_by true cs e n there = only_here cs e n there
  only_by false cs e n there = less cs (tail cs e n there)

  only_with : (owner : Option ℕ) (cs : List Copy) → names_of cs ≡ names_of (owned_copy agent first v owner ++ later) → (n : ℕ) → slice_get cs n ≡ Some c → IsOnly first cs c
  only_with None cs e n there = less cs (tail cs e n there)
  only_with (Some owner) cs e n there = only_by (owner == agent) cs e n there

only_from : (agent first : ℕ) (variables : List VarDecl) (copies : List Copy) → names_of copies ≡ names_of (owned_from agent first variables) → (place : ℕ) (c : Copy) → slice_get copies place ≡ Some c → IsOnly first copies c
only_from agent first [] [] same place c at = absurd (cc)
only_from agent first [] (d ∷ copies) same place c at = absurd (cc)
only_from agent first (v ∷ rest) copies same place c at =
    only_with agent first v (owned_from agent (first + 1) rest) c (λ cs e n there. only_from agent (first + 1) rest cs e n c there) v.owner copies same place at

-- So the copy of a variable is the one that there is.
pub copy_found : (agent : ℕ) (variables : List VarDecl) (copies : List Copy) → names_of copies ≡ names_of (owned_from agent 0 variables) → (place : ℕ) (c : Copy) → slice_get copies place ≡ Some c → copy_of c.variable copies ≡ Some c.value
copy_found agent variables copies is place c at = IsOnly.found (only_from agent 0 variables copies is place c at)
