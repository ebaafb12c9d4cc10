-- The values of the operators, in numbers, on signed numbers of any width (ISO C 6.5; sums and products
-- wrap around).
use Rattle.std.specs.Prelude.{◌≡◌, ℕ, zero, ◌*◌, ◌%◌, ◌^◌, Bool, true, false, not, ◌&&◌, ◌||◌, if◌then◌else◌, Option, Some, None, ℤ, pos, neg_ℤ, ◌+ℤ◌}
use Rattle.std.specs.Prelude.{◌-ℤ◌, ◌*ℤ◌, int_lt, int_le, int_rem, FitsSigned}
use Rattle.std.specs.Int.{Width, cast_unsigned, int_wrap, int_wrapping_div, int_shl, int_shr, int_bit_and, int_bit_or, int_bit_xor, int_bit_not}
use mir.Val.{bits}
use Rattle.psy_arith.specs.declared.operators.Op1.{Op1}
use Rattle.psy_arith.specs.declared.operators.Op1.TheVariants as one
use Rattle.psy_arith.specs.declared.operators.Op2.{Op2}
use Rattle.psy_arith.specs.declared.operators.Op2.TheVariants as two

-- 1 where it holds, else 0
abbrev pub truth : Bool → ℤ
truth b = if b then pos 1 else pos 0

-- The value is 0.
abbrev pub is_zero : ℤ → Bool
is_zero (pos zero) = true
is_zero _ = false

-- How far a shift goes: by the lowest bits of b, five of them at 32 bits.
abbrev pub distance : Width → ℤ → ℕ
distance w b = cast_unsigned w b % bits w

-- A quotient is truncated toward 0, and MIN / -1 wraps around to MIN.
abbrev pub quotient : Width → ℤ → ℤ → Option ℤ
quotient w a b = if is_zero b then None else Some (int_wrapping_div w a b)

-- What the truncated quotient leaves: a - a / b * b.
abbrev pub remainder : ℤ → ℤ → Option ℤ
remainder a b = if is_zero b then None else Some (int_rem a b)

-- `a op b`, or none where the operator divides by 0
abbrev pub value2 : Width → Op2 → ℤ → ℤ → Option ℤ
value2 w two.Mul a b = Some (int_wrap w (a *ℤ b))
value2 w two.Div a b = quotient w a b
value2 w two.Rem a b = remainder a b
value2 w two.Add a b = Some (int_wrap w (a +ℤ b))
value2 w two.Sub a b = Some (int_wrap w (a -ℤ b))
value2 w two.Shl a b = Some (int_shl w a (distance w b))
value2 w two.Shr a b = Some (int_shr a (distance w b))
value2 w two.Lt a b = Some (truth (int_lt a b))
value2 w two.Le a b = Some (truth (int_le a b))
value2 w two.Gt a b = Some (truth (int_lt b a))
value2 w two.Ge a b = Some (truth (int_le b a))
value2 w two.Eq a b = Some (truth (is_zero (a -ℤ b)))
value2 w two.Ne a b = Some (truth (not (is_zero (a -ℤ b))))
value2 w two.And a b = Some (int_bit_and w a b)
value2 w two.Xor a b = Some (int_bit_xor w a b)
value2 w two.Or a b = Some (int_bit_or w a b)
value2 w two.AndAnd a b = Some (truth (not (is_zero a) && not (is_zero b)))
value2 w two.OrOr a b = Some (truth (not (is_zero a) || not (is_zero b)))

-- `op a`
abbrev pub value1 : Width → Op1 → ℤ → ℤ
value1 w one.Neg a = int_wrap w (neg_ℤ a)
value1 w one.Flip a = int_bit_not w a
value1 w one.Not a = truth (is_zero a)

-- r is what is left of z in the width's bits: it has the width's range, and differs from z by a
-- multiple of 2 ^ bits.
pub record Wraps (w : Width) (z r : ℤ) : Type 0 where
  pub fits : FitsSigned w r
  pub congruent : (j : ℕ) × (k : ℕ) × (r +ℤ pos (j * 2 ^ bits w) ≡ z +ℤ pos (k * 2 ^ bits w))
