-- The operators keep to the range of their width.
use Rattle.std.proofs.Common.{◌≡◌, ℕ, ◌^◌, Bool, true, false, refl, arith}
use Rattle.std.specs.Prelude.{ℤ, int_rem, FitsSigned}
use Rattle.std.specs.Int.{Width, w8, w16, w32, w64, w128, int_shr, int_wrap}
use Rattle.std.specs.Option.{IfSome}
use Rattle.std.proofs.lemmas.Int.{SFits-int_wrap}
use Rattle.std.proofs.Math.Facts.{sfits_lit}
use lib.Signed.{mag_rem, mag_shr}
use borrow.Author.Gap.{read_sfits}
use Rattle.psy_arith.specs.declared.operators.Op1.{Op1}
use Rattle.psy_arith.specs.declared.operators.Op1.TheVariants as one
use Rattle.psy_arith.specs.declared.operators.Op2.{Op2}
use Rattle.psy_arith.specs.declared.operators.Op2.TheVariants as two
use Rattle.psy_arith.specs.declared.width.Width.{Width as Named}
use Rattle.psy_arith.specs.Types.{taken1, taken2, type1, type2}
use Rattle.psy_arith.specs.Widths.{of_type}
use Rattle.psy_arith.specs.Operators.{truth, is_zero, distance, quotient, remainder, value1, value2}

truth_fits : (w : Width) (b : Bool) → FitsSigned w (truth b)
truth_fits w8 true = sfits_lit tt
truth_fits w16 true = sfits_lit tt
truth_fits w32 true = sfits_lit tt
truth_fits w64 true = sfits_lit tt
truth_fits w128 true = sfits_lit tt
truth_fits w8 false = sfits_lit tt
truth_fits w16 false = sfits_lit tt
truth_fits w32 false = sfits_lit tt
truth_fits w64 false = sfits_lit tt
truth_fits w128 false = sfits_lit tt

rem_fits : (w : Width) (a b : ℤ) → FitsSigned w a → FitsSigned w (int_rem a b)
rem_fits w a b f = record { sfits = omega (arith, mag_rem a b, f.sfits) }

shr_fits : (w : Width) (a : ℤ) (n : ℕ) → FitsSigned w a → FitsSigned w (int_shr a n)
shr_fits w a n f = record { sfits = omega (arith, mag_shr a (2 ^ n), f.sfits) }

quotient_fits : (w : Width) (a b : ℤ) (t : Bool) → is_zero b ≡ t → IfSome (quotient w a b) (FitsSigned w)
quotient_fits w a b true e = rw e tt
quotient_fits w a b false e = rw e (read_sfits w _)

remainder_fits : (w : Width) (a b : ℤ) (t : Bool) → is_zero b ≡ t → FitsSigned w a → IfSome (remainder a b) (FitsSigned w)
remainder_fits w a b true e f = rw e tt
remainder_fits w a b false e f = rw e (rem_fits w a b f)

pub value1_fits : (w : Width) (op : Op1) (a : ℤ) → FitsSigned w (value1 w op a)
value1_fits w one.Neg a = SFits-int_wrap w _
value1_fits w one.Flip a = read_sfits w _
value1_fits w one.Not a = truth_fits w (is_zero a)

pub value2_fits : (w : Width) (op : Op2) (a b : ℤ) → FitsSigned w a → IfSome (value2 w op a b) (FitsSigned w)
value2_fits w two.Mul a b f = SFits-int_wrap w _
value2_fits w two.Div a b f = quotient_fits w a b (is_zero b) refl
value2_fits w two.Rem a b f = remainder_fits w a b (is_zero b) refl f
value2_fits w two.Add a b f = SFits-int_wrap w _
value2_fits w two.Sub a b f = SFits-int_wrap w _
value2_fits w two.Shl a b f = read_sfits w _
value2_fits w two.Shr a b f = shr_fits w a (distance w b) f
value2_fits w two.Lt a b f = truth_fits w _
value2_fits w two.Le a b f = truth_fits w _
value2_fits w two.Gt a b f = truth_fits w _
value2_fits w two.Ge a b f = truth_fits w _
value2_fits w two.Eq a b f = truth_fits w _
value2_fits w two.Ne a b f = truth_fits w _
value2_fits w two.And a b f = read_sfits w _
value2_fits w two.Xor a b f = read_sfits w _
value2_fits w two.Or a b f = read_sfits w _
value2_fits w two.AndAnd a b f = truth_fits w _
value2_fits w two.OrOr a b f = truth_fits w _

pub taken1_fits : (w : Named) (op : Op1) (a : ℤ) → FitsSigned (of_type (type1 op w)) (taken1 (of_type w) op a)
taken1_fits w one.Neg a = value1_fits (of_type w) one.Neg (int_wrap (of_type w) a)
taken1_fits w one.Flip a = value1_fits (of_type w) one.Flip (int_wrap (of_type w) a)
taken1_fits w one.Not a = truth_fits w32 (is_zero a)

pub taken2_fits : (w : Named) (op : Op2) (a b : ℤ) → IfSome (taken2 (of_type w) op a b) (FitsSigned (of_type (type2 op w)))
taken2_fits w two.Mul a b = value2_fits (of_type w) two.Mul (int_wrap (of_type w) a) (int_wrap (of_type w) b) (SFits-int_wrap (of_type w) a)
taken2_fits w two.Div a b = value2_fits (of_type w) two.Div (int_wrap (of_type w) a) (int_wrap (of_type w) b) (SFits-int_wrap (of_type w) a)
taken2_fits w two.Rem a b = value2_fits (of_type w) two.Rem (int_wrap (of_type w) a) (int_wrap (of_type w) b) (SFits-int_wrap (of_type w) a)
taken2_fits w two.Add a b = value2_fits (of_type w) two.Add (int_wrap (of_type w) a) (int_wrap (of_type w) b) (SFits-int_wrap (of_type w) a)
taken2_fits w two.Sub a b = value2_fits (of_type w) two.Sub (int_wrap (of_type w) a) (int_wrap (of_type w) b) (SFits-int_wrap (of_type w) a)
taken2_fits w two.Shl a b = value2_fits (of_type w) two.Shl (int_wrap (of_type w) a) (int_wrap (of_type w) b) (SFits-int_wrap (of_type w) a)
taken2_fits w two.Shr a b = value2_fits (of_type w) two.Shr (int_wrap (of_type w) a) (int_wrap (of_type w) b) (SFits-int_wrap (of_type w) a)
taken2_fits w two.Lt a b = truth_fits w32 _
taken2_fits w two.Le a b = truth_fits w32 _
taken2_fits w two.Gt a b = truth_fits w32 _
taken2_fits w two.Ge a b = truth_fits w32 _
taken2_fits w two.Eq a b = truth_fits w32 _
taken2_fits w two.Ne a b = truth_fits w32 _
taken2_fits w two.And a b = value2_fits (of_type w) two.And (int_wrap (of_type w) a) (int_wrap (of_type w) b) (SFits-int_wrap (of_type w) a)
taken2_fits w two.Xor a b = value2_fits (of_type w) two.Xor (int_wrap (of_type w) a) (int_wrap (of_type w) b) (SFits-int_wrap (of_type w) a)
taken2_fits w two.Or a b = value2_fits (of_type w) two.Or (int_wrap (of_type w) a) (int_wrap (of_type w) b) (SFits-int_wrap (of_type w) a)
taken2_fits w two.AndAnd a b = truth_fits w32 _
taken2_fits w two.OrOr a b = truth_fits w32 _
