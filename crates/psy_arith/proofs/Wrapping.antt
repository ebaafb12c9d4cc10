-- What is left of a number in a width's bits.
use Rattle.std.proofs.Common.{◌≡◌, ℕ, ◌+◌, ◌-◌, ◌*◌, ◌/◌, ◌%◌, ◌^◌, ◌<◌, ◌≤◌, ◌↔◌, refl, sym, ap, subst, ◌∙◌, arith}
use native.Mathlib.Nat.{div-add-mod', mod-lt, mul-le-mul_left}
use lib.IntN.{ℤ, pos, negsuc, ◌+ℤ◌}
use lib.Pow.{pow_pos}
use mir.Syntax.{Width}
use mir.Val.{bits}
use mir.ValLaws.{pow-bits}
use borrow.Author.Differences.{up, down, same_in, same_out, sum_is_lem, fits_in, read_fits, ints}
use Rattle.std.specs.Prelude.{FitsSigned, unsigned_abs}
use Rattle.std.specs.Int.{cast_signed, cast_unsigned, int_wrap, int_rem_euclid}
use Rattle.std.proofs.lemmas.Int.{of_z-to_z, int_rem_euclid_is, int_wrap_fits, SFits-int_wrap}
use Rattle.psy_arith.specs.Operators.{Wraps}

-- What a division by 2 ^ bits leaves, read as signed.
pub rem_wraps : (w : Width) (z r : ℤ) → r ≡ int_rem_euclid z (pos (2 ^ bits w)) → cast_signed w (unsigned_abs r) ≡ int_wrap w z
unfolding int_wrap
rem_wraps w z r e = ap (λ q. cast_signed w (unsigned_abs q)) e

-- Numbers that differ by a multiple of 2 ^ bits leave the same.
wrapped_same : (w : Width) (a b : ℤ) (j k : ℕ) → a +ℤ pos (j * 2 ^ bits w) ≡ b +ℤ pos (k * 2 ^ bits w) → int_wrap w a ≡ int_wrap w b
unfolding int_wrap
wrapped_same w a b j k e =
    let m = 2 ^ bits w in
    let some = pow_pos (bits w) in
    let t = down a + down b in
    let far : t * 1 ≤ t * m = mul-le-mul_left t some in
    let n = up a + (j + t) * m - down a in
    let from : (z : ℤ) (i : ℕ) → z +ℤ pos ((i + t) * m) ≡ pos n → int_wrap w z ≡ cast_signed w (n % m) = λ z i h. ap (λ r. cast_signed w (unsigned_abs r)) (int_rem_euclid_is z (pos m) m (i + t) n some refl h) in
    from a j (omega (arith, ints)) ∙ sym (from b k (omega (arith, ints)))

-- The bits n and their signed value differ by a multiple of 2 ^ bits.
of_bits : (w : Width) (z : ℤ) (n : ℕ) → FitsSigned w z → cast_unsigned w z ≡ n → (j : ℕ) × (z +ℤ pos (j * 2 ^ bits w) ≡ pos n)
of_bits w (pos m) n f e = (0, omega (arith, same_in, sum_is_lem))
of_bits w (negsuc m) n f e = (1, omega (arith, same_in, sum_is_lem, f.sfits, pow-bits w))

read : (w : Width) (n : ℕ) → n < 2 ^ bits w → (j : ℕ) × (cast_signed w n +ℤ pos (j * 2 ^ bits w) ≡ pos n)
read w n h = of_bits w (cast_signed w n) n (omega (arith, fits_in, read_fits w n)) (of_z-to_z w n h)

-- So do a number and what is left of it.
left : (w : Width) (z : ℤ) → (j : ℕ) × (k : ℕ) × (int_wrap w z +ℤ pos (j * 2 ^ bits w) ≡ z +ℤ pos (k * 2 ^ bits w))
unfolding int_wrap
left w (pos a) =
    let m = 2 ^ bits w in
    let r = read w (a % m) (mod-lt a (pow_pos (bits w))) in
    (r.0 + a / m, 0, omega (arith, same_in, same_out, sum_is_lem, r.1, div-add-mod' a m))
left w (negsuc a) =
    let m = 2 ^ bits w in
    let small = mod-lt a (pow_pos (bits w)) in
    let r = read w (m - 1 - a % m) (omega arith) in
    (r.0, a / m + 1, omega (arith, same_in, same_out, sum_is_lem, r.1, div-add-mod' a m))

-- Only the wrapped number is in range and congruent.
pub wraps_is : (w : Width) (z r : ℤ) → Wraps w z r ↔ (r ≡ int_wrap w z)
wraps_is w z r = (
  λ h. sym (int_wrap_fits w r h.fits) ∙ wrapped_same w r z h.congruent.0 h.congruent.1 h.congruent.2,
  λ e. subst (Wraps w z) (sym e) (record { fits = SFits-int_wrap w z; congruent = left w z }),
)
