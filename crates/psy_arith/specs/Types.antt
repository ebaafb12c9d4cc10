-- The operators on operands of any type: each operand is first taken at the operator's width, and what comes of it has a
-- type by the operator and its width.
use Rattle.std.specs.Prelude.{Option, ℤ}
use Rattle.std.specs.Int.{Width, int_wrap}
use Rattle.psy_arith.specs.declared.operators.Op1.{Op1}
use Rattle.psy_arith.specs.declared.operators.Op1.TheVariants as one
use Rattle.psy_arith.specs.declared.operators.Op2.{Op2}
use Rattle.psy_arith.specs.declared.operators.Op2.TheVariants as two
use Rattle.psy_arith.specs.declared.width.Width.{Width as Named}
use Rattle.psy_arith.specs.declared.width.Width.TheVariants as named
use Rattle.psy_arith.specs.Operators.{truth, is_zero, value1, value2}

-- `a op b`, each operand taken modulo 2 ^ bits, as signed
abbrev pub taken2 : Width → Op2 → ℤ → ℤ → Option ℤ
taken2 w op a b = value2 w op (int_wrap w a) (int_wrap w b)

-- `op a`, the operand taken modulo 2 ^ bits, as signed; `!` takes it whole, whatever the width.
abbrev pub taken1 : Width → Op1 → ℤ → ℤ
taken1 w one.Not a = truth (is_zero a)
taken1 w op a = value1 w op (int_wrap w a)

-- The type of `a op b` at a width: `int` where it is 1 or 0, and else that of the width.
abbrev pub type2 : Op2 → Named → Named
type2 two.Lt w = named.W32
type2 two.Le w = named.W32
type2 two.Gt w = named.W32
type2 two.Ge w = named.W32
type2 two.Eq w = named.W32
type2 two.Ne w = named.W32
type2 two.AndAnd w = named.W32
type2 two.OrOr w = named.W32
type2 op w = w

-- The type of `op a` at a width: `int` of `!`, and else that of the width.
abbrev pub type1 : Op1 → Named → Named
type1 one.Not w = named.W32
type1 op w = w
