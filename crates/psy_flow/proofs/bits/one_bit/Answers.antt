-- What is left of the proof of `bits::one_bit`.
use Rattle.std.proofs.Common.{◌≡◌, ◌*◌, ◌%◌, ◌^◌, sym, subst, inl, inr, arith}
use Rattle.std.proofs.lemmas.Nat.{shl_whole}
use Rattle.std.proofs.lemmas.Nat.Bits.{bit_at-pow_other, bit_at-pow_same}
use Rattle.psy_flow.specs.Bits.{HasBit}
use Rattle.psy_flow.proofs.WorthCells.{same_or_not}
use Rattle.psy_flow.proofs.bits.one_bit.Goals as goal

pub returns : goal.returns
returns c other =
    let bit = c.args.bit in
    let whole : 1 * 2 ^ bit % 2 ^ 64 ≡ 1 * 2 ^ bit = shl_whole 1 1 bit 64 (omega arith) (omega (arith, c.requires)) in
    let is : 1 * 2 ^ bit % 2 ^ 64 ≡ 2 ^ bit = omega (arith, whole) in
    let to : HasBit (2 ^ bit) other → other ≡ bit = λ h. elim (same_or_not other bit) [
      | inl same ↦ same
      | inr not ↦ absurd (omega (arith, h, bit_at-pow_other bit other not))
    ] in
    let back : other ≡ bit → HasBit (2 ^ bit) other = λ same. subst (HasBit (2 ^ bit)) (sym same) (bit_at-pow_same bit) in
    ((λ h. to (subst (λ cell. HasBit cell other) is h)), (λ same. subst (λ cell. HasBit cell other) (sym is) (back same)))
