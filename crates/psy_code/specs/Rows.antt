-- The bytes of the instructions, and how many operands each pops and pushes.
use Rattle.std.specs.Prelude.{ℕ, ◌+◌, Bool, true, false, List, [], ◌∷◌}
use Rattle.psy_arith.specs.declared.operators.Op1.{Op1}
use Rattle.psy_arith.specs.declared.operators.Op1.TheVariants as one
use Rattle.psy_arith.specs.declared.operators.Op2.{Op2}
use Rattle.psy_arith.specs.declared.operators.Op2.TheVariants as op
use Rattle.psy_arith.specs.declared.table.Row.{Row}
use Rattle.psy_arith.specs.declared.width.Width.{Width}
use Rattle.psy_arith.specs.declared.width.Width.TheVariants as widths
use Rattle.psy_code.specs.declared.instr.Instr.{Instr}
use Rattle.psy_code.specs.declared.instr.Instr.TheVariants as instr

-- The number of an operator on two operands among those of its width; `&&` and `||`, which no instruction has, as `&` and `|`.
abbrev pub number_of_operator : Op2 → ℕ
number_of_operator op.Mul = 0
number_of_operator op.Div = 1
number_of_operator op.Rem = 2
number_of_operator op.Add = 3
number_of_operator op.Sub = 4
number_of_operator op.Shl = 5
number_of_operator op.Shr = 6
number_of_operator op.Lt = 7
number_of_operator op.Le = 8
number_of_operator op.Gt = 9
number_of_operator op.Ge = 10
number_of_operator op.Eq = 11
number_of_operator op.Ne = 12
number_of_operator op.And = 13
number_of_operator op.Xor = 14
number_of_operator op.Or = 15
number_of_operator op.AndAnd = 13
number_of_operator op.OrOr = 15

-- The byte of the first operator on two operands of a width.
abbrev pub binary_from : Width → ℕ
binary_from widths.W8 = 64
binary_from widths.W16 = 80
binary_from widths.W32 = 32
binary_from widths.W64 = 96

-- The byte of an operator on one operand; `!` has one for all widths.
abbrev pub byte_of_unary : Op1 → Width → ℕ
byte_of_unary one.Not width = 50
byte_of_unary one.Neg widths.W8 = 112
byte_of_unary one.Flip widths.W8 = 113
byte_of_unary one.Neg widths.W16 = 114
byte_of_unary one.Flip widths.W16 = 115
byte_of_unary one.Neg widths.W32 = 48
byte_of_unary one.Flip widths.W32 = 49
byte_of_unary one.Neg widths.W64 = 116
byte_of_unary one.Flip widths.W64 = 117

-- The byte of a cast to a width; to 64 bits, for which no instruction is written, as to 32.
abbrev pub byte_of_cast : Width → ℕ
byte_of_cast widths.W8 = 51
byte_of_cast widths.W16 = 52
byte_of_cast widths.W32 = 53
byte_of_cast widths.W64 = 53

-- The byte of an instruction.
abbrev pub byte_of : Instr → ℕ
byte_of (instr.Push number) = 1
byte_of (instr.Load cell) = 2
byte_of (instr.Store cell) = 3
byte_of (instr.LoadCell base cells) = 4
byte_of (instr.StoreCell base cells) = 5
byte_of (instr.LoadCopy variable) = 6
byte_of (instr.StoreCopy variable) = 7
byte_of (instr.Past variable back) = 8
byte_of (instr.Ready stream) = 9
byte_of (instr.Take stream) = 10
byte_of (instr.Send stream after clock) = 11
byte_of (instr.Jump to) = 12
byte_of (instr.JumpZero to) = 13
byte_of (instr.AndTest to) = 14
byte_of (instr.OrTest to) = 15
byte_of instr.Truth = 16
byte_of (instr.Zero counter) = 17
byte_of (instr.Guard counter bound) = 18
byte_of (instr.Call function) = 19
byte_of instr.Return = 20
byte_of (instr.Advance point) = 21
byte_of (instr.Binary operator width) = binary_from width + number_of_operator operator
byte_of (instr.Unary operator width) = byte_of_unary operator width
byte_of (instr.Cast width) = byte_of_cast width

-- A row of the table.
abbrev pub row : ℕ → ℕ → ℕ → Row
row byte pops pushes = record { byte = byte; pops = pops; pushes = pushes }

-- The table: by byte, the operands that an instruction pops and pushes.
abbrev pub rows : List Row
rows =
    row 1 0 1 ∷ row 2 0 1 ∷ row 3 1 0 ∷ row 4 1 1 ∷ row 5 2 0 ∷ row 6 0 1 ∷ row 7 1 0 ∷ row 8 0 1 ∷ row 9 0 1 ∷ row 10 0 1
    ∷ row 11 1 0 ∷ row 12 0 0 ∷ row 13 1 0 ∷ row 14 1 1 ∷ row 15 1 1 ∷ row 16 1 1 ∷ row 17 0 0 ∷ row 18 1 1 ∷ row 19 0 0 ∷ row 20 1 1
    ∷ row 21 0 0 ∷ row 32 2 1 ∷ row 33 2 1 ∷ row 34 2 1 ∷ row 35 2 1 ∷ row 36 2 1 ∷ row 37 2 1 ∷ row 38 2 1 ∷ row 39 2 1 ∷ row 40 2 1
    ∷ row 41 2 1 ∷ row 42 2 1 ∷ row 43 2 1 ∷ row 44 2 1 ∷ row 45 2 1 ∷ row 46 2 1 ∷ row 47 2 1 ∷ row 48 1 1 ∷ row 49 1 1 ∷ row 50 1 1
    ∷ row 51 1 1 ∷ row 52 1 1 ∷ row 53 1 1 ∷ row 64 2 1 ∷ row 65 2 1 ∷ row 66 2 1 ∷ row 67 2 1 ∷ row 68 2 1 ∷ row 69 2 1 ∷ row 70 2 1
    ∷ row 71 2 1 ∷ row 72 2 1 ∷ row 73 2 1 ∷ row 74 2 1 ∷ row 75 2 1 ∷ row 76 2 1 ∷ row 77 2 1 ∷ row 78 2 1 ∷ row 79 2 1 ∷ row 80 2 1
    ∷ row 81 2 1 ∷ row 82 2 1 ∷ row 83 2 1 ∷ row 84 2 1 ∷ row 85 2 1 ∷ row 86 2 1 ∷ row 87 2 1 ∷ row 88 2 1 ∷ row 89 2 1 ∷ row 90 2 1
    ∷ row 91 2 1 ∷ row 92 2 1 ∷ row 93 2 1 ∷ row 94 2 1 ∷ row 95 2 1 ∷ row 96 2 1 ∷ row 97 2 1 ∷ row 98 2 1 ∷ row 99 2 1 ∷ row 100 2 1
    ∷ row 101 2 1 ∷ row 102 2 1 ∷ row 103 2 1 ∷ row 104 2 1 ∷ row 105 2 1 ∷ row 106 2 1 ∷ row 107 2 1 ∷ row 108 2 1 ∷ row 109 2 1 ∷ row 110 2 1
    ∷ row 111 2 1 ∷ row 112 1 1 ∷ row 113 1 1 ∷ row 114 1 1 ∷ row 115 1 1 ∷ row 116 1 1 ∷ row 117 1 1 ∷ []

-- The instructions that pop and push what their row says wherever they go on: all but a call, whose arguments the
-- function counts, and a test that pushes only where it jumps
abbrev pub is_plain : Instr → Bool
is_plain (instr.AndTest to) = false
is_plain (instr.OrTest to) = false
is_plain (instr.Call function) = false
is_plain i = true
