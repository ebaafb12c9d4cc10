-- Places of dates.
use Rattle.std.proofs.Common.{ℕ, ◌-◌, ◌/◌, ◌<◌, ◌≤◌, max, min, arith}
use Rattle.std.proofs.Math.Nat.{div-mul-le_self, mul-le-mul_right}
use Rattle.std.proofs.lemmas.Nat.{le-div}
use Rattle.psy_draw.specs.Places.{x_of}

-- A part of more is no less.
div_rises : (k m n : ℕ) → 0 < k → m ≤ n → m / k ≤ n / k
div_rises k m n some le = le-div (m / k) n k some (omega (arith, le, div-mul-le_self m k))

-- A later date doesn't stand before.
pub x_rises : (from to grain a b : ℕ) → 0 < grain → a ≤ b → x_of from to grain a ≤ x_of from to grain b
x_rises from to grain a b some le =
    let dates : max (min a to) from - from ≤ max (min b to) from - from = omega (arith, le) in
    let one : 0 < max (to - from) 1 = omega arith in
    mul-le-mul_right grain (div_rises grain _ _ some (div_rises (max (to - from) 1) _ _ one (mul-le-mul_right 960 dates)))
