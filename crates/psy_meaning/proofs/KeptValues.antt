-- Numbers in the ranges of types: what counts, casts and truths give, and what the laws of the operators say.
use Rattle.std.proofs.Common.{◌≡◌, ℕ, suc, ◌-◌, ◌<◌, ◌≤◌, Bool, true, false, refl, arith}
use Rattle.std.specs.Prelude.{ℤ, pos, negsuc, FitsSigned, nat_lt}
use Rattle.std.specs.Int.{w32, cast_signed}
use Rattle.std.specs.Option.{IfSome}
use Rattle.std.proofs.Math.Facts.{sfits_lit}
use mir.Val.{sel}
use Rattle.psy_arith.specs.declared.operators.Op1.{Op1}
use Rattle.psy_arith.specs.declared.operators.Op2.{Op2}
use Rattle.psy_arith.specs.declared.width.Width.{Width}
use Rattle.psy_arith.specs.declared.width.Width.TheVariants.{W8, W16, W32, W64}
use Rattle.psy_arith.specs.Operators.{truth}
use Rattle.psy_arith.specs.Types.{taken1, taken2, type1, type2}
use Rattle.psy_arith.specs.Widths.{is_narrower, of_type}

abbrev pub Fits : ℤ → Type 0
Fits v = FitsSigned w32 v

-- A number in the range of a type
abbrev pub Has : Width → ℤ → Type 0
Has width v = FitsSigned (of_type width) v

-- What the law `types` of the operators says: what an operator gives has the range of its type, and a number of a type has
-- that of each type that isn't narrower.
pub record Ranges : Type 0 where
  pub two : (width : Width) (operator : Op2) (a b : ℤ) → IfSome (taken2 (of_type width) operator a b) (Has (type2 operator width))
  pub one : (width : Width) (operator : Op1) (a : ℤ) → Has (type1 operator width) (taken1 (of_type width) operator a)
  pub wider : (narrow wide : Width) (a : ℤ) → is_narrower wide narrow ≡ false → Has narrow a → Has wide a

pub zero_has : (width : Width) → Has width (pos 0)
zero_has W8 = sfits_lit tt
zero_has W16 = sfits_lit tt
zero_has W32 = sfits_lit tt
zero_has W64 = sfits_lit tt

pub zero_fits : Fits (pos 0)
zero_fits = zero_has W32

pub one_fits : Fits (pos 1)
one_fits = sfits_lit tt

cast_by : (t : Bool) (n : ℕ) → nat_lt n 2147483648 ≡ t → Fits (sel t (pos n) (negsuc (4294967296 - suc n)))
cast_by true n e = let less : n < 2147483648 = grind (arith, e) in record { sfits = less }
cast_by false n e = let most : 2147483648 ≤ n = grind (arith, e) in record { sfits = omega (arith, most) }

-- The bits of a number, read as a signed one
pub cast_fits : (n : ℕ) → Fits (cast_signed w32 n)
cast_fits n = cast_by (nat_lt n 2147483648) n refl

pub truth_fits : (b : Bool) → Fits (truth b)
truth_fits true = one_fits
truth_fits false = zero_fits
