-- Entries of working copies, and their index.
use Rattle.std.proofs.Common.{◌≡◌, ◌≢◌, ℕ, zero, suc, ◌<◌, true, false, eqb, List, [], ◌∷◌, length, set, get_or, map, Some, refl, sym, ap, ◌∙◌, arith, ⊎_elim}
use Rattle.std.specs.Prelude.{ℤ, IsSome}
use Rattle.std.specs.List.{zip}
use Rattle.std.proofs.lemmas.Bool.{false≢true}
use Rattle.std.proofs.lemmas.Bool.Decides.{eqb_tells}
use Rattle.std.proofs.lemmas.Option.{slice_get_within, get_or_from_slice_get}
use Rattle.psy_code.specs.declared.code.CopyInit.{CopyInit}
use Rattle.psy_code.specs.Execution.{Copy, copy_of, with_copy, copy_from}
use Rattle.psy_machine.specs.declared.copies.Entry.{Entry}
use Rattle.psy_machine.specs.Copying.{copies_in, entry_from, entry_with, with_values, IsFirst, IsIndex}

pub copies_in-map : (cs : List CopyInit) → copies_in (map entry_from cs) ≡ map copy_from cs
copies_in-map [] = refl
copies_in-map (c ∷ cs) = ap (λ rest. copy_from c ∷ rest) (copies_in-map cs)

pub copies_in-zip : (cs : List CopyInit) (values : List ℤ) → copies_in (map entry_with (zip cs values)) ≡ with_values (map copy_from cs) values
copies_in-zip [] values = refl
copies_in-zip (c ∷ cs) [] = refl
copies_in-zip (c ∷ cs) (v ∷ values) = ap (λ rest. record { variable = c.variable; value = v } ∷ rest) (copies_in-zip cs values)

-- The copy of a variable is the value of its first entry, and so it is another one's once it changes.
pub record Found (variable : ℕ) (es : List Entry) : Type 0 where
  pub place : ℕ
  pub first : IsFirst variable es place
  pub within : place < length es
  pub value : (d : Entry) → copy_of variable (copies_in es) ≡ Some (get_or es place d).value
  pub changed : (d : Entry) (v : ℤ) → with_copy variable v (copies_in es) ≡ copies_in (set es place (record (get_or es place d) { value = v }))

found_next : (variable : ℕ) (e : Entry) (es : List Entry) → eqb e.variable variable ≡ false → e.variable ≢ variable → Found variable es → Found variable (e ∷ es)
found_next variable e es differs other f = record {
  place = suc f.place;
  first = (other, f.first);
  within = omega (arith, f.within);
  value = λ d. rw differs (f.value d);
  changed = λ d v. rw differs (ap (λ rest. record { variable = e.variable; value = e.value } ∷ rest) (f.changed d v));
}

found_here : (variable : ℕ) (e : Entry) (es : List Entry) → eqb e.variable variable ≡ true → e.variable ≡ variable → Found variable (e ∷ es)
found_here variable e es equal same = record {
  place = 0;
  first = same;
  within = omega arith;
  value = λ d. rw equal refl;
  changed = λ d v. rw equal refl;
}

pub found : (variable : ℕ) (es : List Entry) → IsSome (copy_of variable (copies_in es)) → Found variable es
found variable [] h = absurd (false≢true h)
found variable (e ∷ es) h =
    ⊎_elim (λ t. found_here variable e es t.0 t.1) (λ t. found_next variable e es t.0 t.1 (found variable es (rw t.0 at h))) (eqb_tells e.variable variable)

-- A variable has one first entry.
pub one_first : (variable : ℕ) (es : List Entry) (i j : ℕ) → IsFirst variable es i → IsFirst variable es j → i ≡ j
one_first variable (e ∷ es) zero zero f g = refl
one_first variable (e ∷ es) zero (suc j) f g = absurd (g.0 f)
one_first variable (e ∷ es) (suc i) zero f g = absurd (f.0 g)
one_first variable (e ∷ es) (suc i) (suc j) f g = ap suc (one_first variable es i j f.1 g.1)
one_first variable [] i j f g = absurd f

-- Another value leaves the first entries where they are.
pub first-set : (es : List Entry) (at : ℕ) (e d : Entry) (variable i : ℕ) → e.variable ≡ (get_or es at d).variable → at < length es → IsFirst variable (set es at e) i → IsFirst variable es i
first-set (x ∷ es) zero e d variable zero same h f = sym same ∙ f
first-set (x ∷ es) zero e d variable (suc i) same h f = (λ y. f.0 (same ∙ y), f.1)
first-set (x ∷ es) (suc at) e d variable zero same h f = f
first-set (x ∷ es) (suc at) e d variable (suc i) same h f = (f.0, first-set es at e d variable i same (omega (arith, h)) f.1)
first-set [] at e d variable i same h f = absurd (omega (arith, h))

-- What the index reads at a variable that has a copy
pub record Reads (variable : ℕ) (es : List Entry) (places : List ℕ) : Type 0 where
  pub found : Found variable es
  pub within : variable < length places
  pub read : (d : ℕ) → get_or places variable d ≡ found.place

pub reads : (variable : ℕ) (es : List Entry) (places : List ℕ) (copies : List Copy) → copies_in es ≡ copies → IsIndex es places → IsSome (copy_of variable copies) → Reads variable es places
reads variable es places copies e index h =
    let f = found variable es (rw (← e) at h) in
    let at = index variable f.place f.first in
    record { found = f; within = slice_get_within places variable f.place at; read = λ d. get_or_from_slice_get places variable f.place d at }

-- Another value leaves the index as it is.
pub index-set : (es : List Entry) (places : List ℕ) (at : ℕ) (e d : Entry) → IsIndex es places → e.variable ≡ (get_or es at d).variable → at < length es → IsIndex (set es at e) places
index-set es places at e d index same h variable i f = index variable i (first-set es at e d variable i same h f)
