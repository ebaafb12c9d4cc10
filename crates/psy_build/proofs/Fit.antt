-- Which instructions an image can have.
use Rattle.std.proofs.Common.{◌≡◌, ℕ, ◌^◌, ◌<◌, Bool, true, false}
use Rattle.std.specs.Prelude.{FitsSigned, ⊤}
use Rattle.std.specs.Int.{w32}
use Rattle.psy_arith.specs.declared.operators.Op1.{Op1}
use Rattle.psy_arith.specs.declared.operators.Op1.TheVariants as one
use Rattle.psy_arith.specs.declared.operators.Op2.{Op2}
use Rattle.psy_arith.specs.declared.operators.Op2.TheVariants as op
use Rattle.psy_arith.specs.declared.width.Width.{Width}
use Rattle.psy_arith.specs.declared.width.Width.TheVariants as widths
use Rattle.psy_code.specs.declared.instr.Instr.{Instr}
use Rattle.psy_code.specs.declared.instr.Instr.TheVariants as instr

-- A number of 32 bits
abbrev pub Small : ℕ → Type 0
Small n = n < 2 ^ 32

-- A width of less than 64 bits
abbrev pub is_short : Width → Bool
is_short widths.W64 = false
is_short _ = true

-- An operator that an instruction can have: all but `&&` and `||`
abbrev pub is_eager : Op2 → Bool
is_eager op.AndAnd = false
is_eager op.OrOr = false
is_eager _ = true

-- A width at which an instruction can have an operator: `!` has 64 bits alone.
abbrev pub is_width_of : Op1 → Width → Bool
is_width_of one.Not widths.W64 = true
is_width_of one.Not _ = false
is_width_of _ _ = true

-- An instruction that has bytes of its own
abbrev pub Fit : Instr → Type 0
Fit (instr.Push number) = FitsSigned w32 number
Fit (instr.Load cell) = Small cell
Fit (instr.Store cell) = Small cell
Fit (instr.LoadCell base cells) = Small base × Small cells
Fit (instr.StoreCell base cells) = Small base × Small cells
Fit (instr.LoadCopy variable) = Small variable
Fit (instr.StoreCopy variable) = Small variable
Fit (instr.Past variable back) = Small variable × Small back
Fit (instr.Ready stream) = Small stream
Fit (instr.Take stream) = Small stream
Fit (instr.Send stream after clock) = Small stream × Small after × Small clock
Fit (instr.Jump to) = Small to
Fit (instr.JumpZero to) = Small to
Fit (instr.AndTest to) = Small to
Fit (instr.OrTest to) = Small to
Fit instr.Truth = ⊤
Fit (instr.Zero counter) = Small counter
Fit (instr.Guard counter bound) = Small counter × Small bound
Fit (instr.Call function) = Small function
Fit instr.Return = ⊤
Fit (instr.Advance point) = Small point
Fit (instr.Binary operator width) = is_eager operator ≡ true
Fit (instr.Unary operator width) = is_width_of operator width ≡ true
Fit (instr.Cast width) = is_short width ≡ true
