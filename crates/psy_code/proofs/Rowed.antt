-- Each instruction has a row.
use Rattle.std.specs.Prelude.{◌≡◌, Some}
use Rattle.std.proofs.Common.{refl}
use Rattle.psy_arith.specs.declared.operators.Op1.TheVariants as one
use Rattle.psy_arith.specs.declared.width.Width.TheVariants as widths
use Rattle.psy_arith.specs.declared.operators.Op2.TheVariants as op
use Rattle.psy_arith.specs.declared.table.Row.{Row}
use Rattle.psy_arith.specs.Tables.{row_of}
use Rattle.psy_code.specs.declared.instr.Instr.{Instr}
use Rattle.psy_code.specs.declared.instr.Instr.TheVariants as instr
use Rattle.psy_code.specs.Rows.{byte_of, rows}

pub has_row : (i : Instr) → (r : Row) × (row_of (byte_of i) rows ≡ Some r)
has_row (instr.Push n) = (_, refl)
has_row (instr.Load n) = (_, refl)
has_row (instr.Store n) = (_, refl)
has_row (instr.LoadCell b n) = (_, refl)
has_row (instr.StoreCell b n) = (_, refl)
has_row (instr.LoadCopy v) = (_, refl)
has_row (instr.StoreCopy v) = (_, refl)
has_row (instr.Past v b) = (_, refl)
has_row (instr.Ready s) = (_, refl)
has_row (instr.Take s) = (_, refl)
has_row (instr.Send s a c) = (_, refl)
has_row (instr.Jump t) = (_, refl)
has_row (instr.JumpZero t) = (_, refl)
has_row (instr.AndTest t) = (_, refl)
has_row (instr.OrTest t) = (_, refl)
has_row instr.Truth = (_, refl)
has_row (instr.Zero c) = (_, refl)
has_row (instr.Guard c b) = (_, refl)
has_row (instr.Call f) = (_, refl)
has_row instr.Return = (_, refl)
has_row (instr.Advance p) = (_, refl)
-- A line with `operator` is tried at each other operator
has_row (instr.Binary op.Mul widths.W8) = (_, refl)
has_row (instr.Binary operator widths.W8) = (_, refl)
has_row (instr.Binary op.Mul widths.W16) = (_, refl)
has_row (instr.Binary operator widths.W16) = (_, refl)
has_row (instr.Binary op.Mul widths.W32) = (_, refl)
has_row (instr.Binary operator widths.W32) = (_, refl)
has_row (instr.Binary op.Mul widths.W64) = (_, refl)
has_row (instr.Binary operator widths.W64) = (_, refl)
has_row (instr.Unary one.Not width) = (_, refl)
has_row (instr.Unary one.Neg widths.W8) = (_, refl)
has_row (instr.Unary one.Flip widths.W8) = (_, refl)
has_row (instr.Unary one.Neg widths.W16) = (_, refl)
has_row (instr.Unary one.Flip widths.W16) = (_, refl)
has_row (instr.Unary one.Neg widths.W32) = (_, refl)
has_row (instr.Unary one.Flip widths.W32) = (_, refl)
has_row (instr.Unary one.Neg widths.W64) = (_, refl)
has_row (instr.Unary one.Flip widths.W64) = (_, refl)
has_row (instr.Cast widths.W8) = (_, refl)
has_row (instr.Cast widths.W16) = (_, refl)
has_row (instr.Cast widths.W32) = (_, refl)
has_row (instr.Cast widths.W64) = (_, refl)
