-- What is left of the proof of `numbers::add_numbers`.
use Rattle.std.proofs.Common.{◌≡◌, ℕ, ◌+◌, ◌-◌, ◌*◌, ◌<◌, List, [], ◌∷◌, ◌++◌, get_or, sym, ap, subst, ◌∙◌, arith}
use Rattle.std.proofs.lemmas.List.{get_or_default}
use Rattle.psy_flow.specs.Bits.{HasBit, HasNumber}
use Rattle.psy_flow.specs.Listed.{AreBelow}
use Rattle.psy_flow.proofs.FoundRows.{number_bit}
use Rattle.psy_flow.proofs.Gathered.{no_bit}
use Rattle.psy_flow.proofs.NumbersBelow.{with_one, without, without_more}
use Rattle.psy_flow.proofs.numbers.add_numbers.Goals as goal
use Rattle.psy_flow.proofs.numbers.add_numbers.Goals.{then-has_bit+in_ok-push, else-has_bit}

pub returns-then-bits-eq0 : goal.returns-then-bits-eq0
returns-then-bits-eq0 c =
    let rows = c.args.rows.now in
    let place = c.args.place in
    let row = c.args.row in
    let read = c.index-rows-row.result in
    let own : get_or rows row [] ≡ read = get_or_default rows row [] read c.requires.row ∙ sym c.index-rows-row.is in
    let cell : get_or (get_or rows row []) place 0 ≡ 0 = ap (λ (r : List ℕ). get_or r place 0) (own ∙ sym c.as_slice.ensures) ∙ sym c.cell-bits.ensures ∙ c.if-bits-eq0.true in
    without_more (HasNumber rows place) (row * 64) 64 c.args.numbers.now c.requires.below
    (λ number above below has.
    let bit : ℕ = number - row * 64 in
    let low : bit < 64 = omega (arith, above, below) in
    let same : number ≡ row * 64 + bit = omega (arith, above) in
    no_bit bit (subst (λ n. HasBit n bit) cell ((number_bit rows place row bit low).0 (subst (HasNumber rows place) same has))))

pub bits-preserved : goal.bits-preserved
bits-preserved c =
    let rows = c.args.rows.now in
    let place = c.args.place in
    let row = c.args.row in
    let bit = c.bits.bit in
    let number : ℕ = row * 64 + bit in
    let read = c.index-rows-row.result in
    let own : get_or rows row [] ≡ read = get_or_default rows row [] read c.requires.row ∙ sym c.index-rows-row.is in
    let cell : get_or (get_or rows row []) place 0 ≡ c.cell-bits.result = ap (λ (r : List ℕ). get_or r place 0) (own ∙ sym c.as_slice.ensures) ∙ sym c.cell-bits.ensures in
    let next : number + 1 ≡ row * 64 + (bit + 1) = omega arith in
    let told = number_bit rows place row bit c.bits-test.true in
    elim c.if-has_bit.branch [
      | then-has_bit+in_ok-push w ↦ (let set : HasBit c.cell-bits.result bit = grind (arith, c.has_bit.ensures, w.if-has_bit.true) in
          let has : HasNumber rows place number = told.1 (subst (λ n. HasBit n bit) (sym cell) set) in
          subst (AreBelow (HasNumber rows place) (row * 64 + (bit + 1))) (sym (w.numbers-is ∙ w.in_ok-push.ensures.ok))
          (subst (λ n. AreBelow (HasNumber rows place) n (c.bits.numbers ++ number ∷ [])) next (with_one (HasNumber rows place) number c.bits.numbers c.bits.invariant has)))
      | else-has_bit w ↦ (let clear : HasBit c.cell-bits.result bit → ⊥ = λ set. grind (arith, c.has_bit.ensures, w.if-has_bit.false, set) in
          subst (AreBelow (HasNumber rows place) (row * 64 + (bit + 1))) (sym w.numbers-is)
          (subst (λ n. AreBelow (HasNumber rows place) n c.bits.numbers) next (without (HasNumber rows place) number c.bits.numbers c.bits.invariant (λ has. clear (subst (λ n. HasBit n bit) cell (told.0 has))))))
    ]
