-- Heights of one owner by a table that its ways don't leave.
use Rattle.std.proofs.Common.{◌≡◌, sym, subst, ◌∙◌, arith}
use Rattle.std.specs.Prelude.{ℕ, ◌+◌, ◌-◌, ◌≤◌, Option, Some, slice_get}
use Rattle.std.proofs.lemmas.Option.{same_Some}
use Rattle.psy_code.specs.declared.code.Code.{Code}
use Rattle.psy_code.specs.declared.instr.Instr.{Instr}
use Rattle.psy_meaning.specs.Sound.{Each}
use Rattle.psy_flow.specs.Owners.{Begins, Owner}
use Rattle.psy_flow.specs.Heights.{Finds, IsBalanced, IsHeight, Shift, at_start, moved, shifts}
use Rattle.psy_flow.proofs.lemmas.Shifted.{each_among}

-- At a place with this height stands an instruction whose ways on have heights that there are.
pub record IsWithin (code : Code) (Has : ℕ → ℕ → Type 0) (place height : ℕ) : Type 0 where
  pub here : Instr
  pub inside : slice_get code.instrs place ≡ Some here
  pub goes : Each (λ (s : Shift). s.pops ≤ height → Has s.to (height - s.pops + s.pushes)) (shifts code place here)

module _ (code : Code) (owner : Owner) (Has : ℕ → ℕ → Type 0) (start : (place : ℕ) → Begins code owner place → Has place 0) (each : (place height : ℕ) → Has place height → IsWithin code Has place height) where
  pub heights_within : (place height : ℕ) → IsHeight code owner place height → Has place height
  heights_within _ _ (at_start place begins) = start place begins
  heights_within _ _ (moved place next height after i reached there (s, among, to, pops, counts)) =
      let w = each place height (heights_within place height reached) in
      let same : w.here ≡ i = same_Some w.here i (sym w.inside ∙ there) in
      let on = each_among (λ (s : Shift). s.pops ≤ height → Has s.to (height - s.pops + s.pushes)) (shifts code place i) s
      (subst (λ j. Each (λ (s : Shift). s.pops ≤ height → Has s.to (height - s.pops + s.pushes)) (shifts code place j)) same w.goes) among pops in
      let counted : height - s.pops + s.pushes ≡ after = omega (arith, pops, counts) in
      subst (λ p. Has p after) (sym to) (subst (λ n. Has s.to n) counted on)

-- At a place with this height stands an instruction that finds what it pops, and its ways on stay in the table.
pub record IsClosed (code : Code) (at : ℕ → Option ℕ) (place height : ℕ) : Type 0 where
  pub here : Instr
  pub inside : slice_get code.instrs place ≡ Some here
  pub finds : Finds code place here height
  pub goes : Each (λ (s : Shift). at s.to ≡ Some (height - s.pops + s.pushes)) (shifts code place here)

module _ (code : Code) (owner : Owner) (at : ℕ → Option ℕ) (start : (place : ℕ) → Begins code owner place → at place ≡ Some 0) (each : (place height : ℕ) → at place ≡ Some height → IsClosed code at place height) where
  same_here : (place height : ℕ) (i : Instr) (is : at place ≡ Some height) → slice_get code.instrs place ≡ Some i → (each place height is).here ≡ i
  same_here place height i is there = same_Some (each place height is).here i (sym (each place height is).inside ∙ there)

  in_table : (place height : ℕ) → IsHeight code owner place height → at place ≡ Some height
  in_table _ _ (at_start place begins) = start place begins
  in_table _ _ (moved place next height after i reached there (s, among, to, pops, counts)) =
      let is = in_table place height reached in
      let on = each_among (λ (s : Shift). at s.to ≡ Some (height - s.pops + s.pushes)) (shifts code place i) s
      (subst (λ j. Each (λ (s : Shift). at s.to ≡ Some (height - s.pops + s.pushes)) (shifts code place j)) (same_here place height i is there) (each place height is).goes) among in
      let counted : height - s.pops + s.pushes ≡ after = omega (arith, pops, counts) in
      subst (λ p. at p ≡ Some after) (sym to) (subst (λ n. at s.to ≡ Some n) counted on)

  pub by_table : (place : ℕ) → IsBalanced code owner place
  by_table place = record {
    same = λ height other reached also. same_Some height other (sym (in_table place height reached) ∙ in_table place other also);
    there = λ height i reached there.
        let is = in_table place height reached in subst (λ j. Finds code place j height) (same_here place height i is there) (each place height is).finds;
  }
