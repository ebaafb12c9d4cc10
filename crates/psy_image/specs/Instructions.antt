-- How an instruction is spelled: its byte, and then each operand as a number.
use Rattle.std.specs.Prelude.{ℕ, ◌-◌, ◌^◌, ◌==◌, nat_lt, nat_le, ◌&&◌, if◌then◌else◌, Option, Some, None}
use Rattle.std.specs.Option.{option_or}
use Rattle.psy_arith.specs.declared.operators.Op1.TheVariants as one
use Rattle.psy_arith.specs.declared.operators.Op2.{Op2}
use Rattle.psy_arith.specs.declared.operators.Op2.TheVariants as op
use Rattle.psy_arith.specs.declared.width.Width.TheVariants as widths
use Rattle.psy_code.specs.declared.instr.Instr.{Instr}
use Rattle.psy_code.specs.declared.instr.Instr.TheVariants as instr
use Rattle.psy_image.specs.Fields.{Number, Signed, Opcode}
use Rattle.psy_image.specs.Formats.{Format, Done, ◌>>=◌, field}

-- Any number of 32 bits
abbrev pub any : Format ℕ
any = field (Number 0 (2 ^ 32 - 1))

-- The operator on two operands with that number among those of its width
unfoldable pub operator_of : ℕ → Op2
operator_of n =
    if n == 0 then op.Mul else if n == 1 then op.Div else if n == 2 then op.Rem else if n == 3 then op.Add
    else if n == 4 then op.Sub else if n == 5 then op.Shl else if n == 6 then op.Shr else if n == 7 then op.Lt
    else if n == 8 then op.Le else if n == 9 then op.Gt else if n == 10 then op.Ge else if n == 11 then op.Eq
    else if n == 12 then op.Ne else if n == 13 then op.And else if n == 14 then op.Xor else op.Or

-- Operators on two operands: sixteen bytes for each width
unfoldable pub binary_of : ℕ → Option Instr
binary_of byte =
    if nat_le 32 byte && nat_lt byte 48 then Some (instr.Binary (operator_of (byte - 32)) widths.W32)
    else if nat_le 64 byte && nat_lt byte 80 then Some (instr.Binary (operator_of (byte - 64)) widths.W8)
    else if nat_le 80 byte && nat_lt byte 96 then Some (instr.Binary (operator_of (byte - 80)) widths.W16)
    else if nat_le 96 byte && nat_lt byte 112 then Some (instr.Binary (operator_of (byte - 96)) widths.W64)
    else None

-- Operators on one operand, and casts. `!` has one byte for all widths: it takes its operand whole, as at 64 bits. A cast to
-- 64 bits has no spelling.
unfoldable pub unary_of : ℕ → Option Instr
unary_of byte =
    if byte == 48 then Some (instr.Unary one.Neg widths.W32) else if byte == 49 then Some (instr.Unary one.Flip widths.W32)
    else if byte == 50 then Some (instr.Unary one.Not widths.W64)
    else if byte == 51 then Some (instr.Cast widths.W8) else if byte == 52 then Some (instr.Cast widths.W16)
    else if byte == 53 then Some (instr.Cast widths.W32)
    else if byte == 112 then Some (instr.Unary one.Neg widths.W8) else if byte == 113 then Some (instr.Unary one.Flip widths.W8)
    else if byte == 114 then Some (instr.Unary one.Neg widths.W16) else if byte == 115 then Some (instr.Unary one.Flip widths.W16)
    else if byte == 116 then Some (instr.Unary one.Neg widths.W64) else if byte == 117 then Some (instr.Unary one.Flip widths.W64)
    else None

-- The instruction without operands that a byte stands for
unfoldable pub with_none : ℕ → Option Instr
with_none byte =
    if byte == 16 then Some instr.Truth else if byte == 20 then Some instr.Return
    else option_or (binary_of byte) (unary_of byte)

-- The instruction with one operand that a byte stands for
unfoldable pub with_one : ℕ → ℕ → Option Instr
with_one byte n =
    if byte == 2 then Some (instr.Load n) else if byte == 3 then Some (instr.Store n)
    else if byte == 6 then Some (instr.LoadCopy n) else if byte == 7 then Some (instr.StoreCopy n)
    else if byte == 9 then Some (instr.Ready n) else if byte == 10 then Some (instr.Take n)
    else if byte == 12 then Some (instr.Jump n) else if byte == 13 then Some (instr.JumpZero n)
    else if byte == 14 then Some (instr.AndTest n) else if byte == 15 then Some (instr.OrTest n)
    else if byte == 17 then Some (instr.Zero n) else if byte == 19 then Some (instr.Call n)
    else if byte == 21 then Some (instr.Advance n) else None

-- The instruction with two operands that a byte stands for
unfoldable pub with_two : ℕ → ℕ → ℕ → Option Instr
with_two byte m n =
    if byte == 4 then Some (instr.LoadCell m n) else if byte == 5 then Some (instr.StoreCell m n)
    else if byte == 8 then Some (instr.Past m n) else if byte == 18 then Some (instr.Guard m n) else None

-- This instruction, where there is one; else what more bytes say
abbrev pub or_more : Option Instr → Format Instr → Format Instr
or_more (Some i) more = Done i
or_more None more = more

-- A number to push
abbrev pub pushed : Format Instr
pushed = field Signed >>= λ z. Done (instr.Push z)

-- Its operands: one, two or the three of `send`
unfoldable pub operands : ℕ → Format Instr
operands byte = do
  first ← any
  or_more (with_one byte first) (do
    second ← any
    or_more (with_two byte first second) (do
      third ← any
      Done (instr.Send first second third)))

-- An instruction
unfoldable pub instruction : Format Instr
instruction = do
  byte ← field Opcode
  or_more (with_none byte) (if byte == 1 then pushed else operands byte)
