-- What is left of the proof of `timing::end_of`.
use Rattle.std.proofs.Common.{◌≤◌, ◌+◌, ◌*◌, ℕ, le_trans, arith}
use Rattle.std.proofs.Math.Nat.{mul-le-mul_left, mul-le-mul_right}
use Rattle.psy_audit.proofs.timing.end_of.Goals as goal

-- A product of two numbers that are small
small : (a b m n : ℕ) → a ≤ m → b ≤ n → a * b ≤ m * n
small a b m n x y = le_trans (mul-le-mul_right b x) (mul-le-mul_left m y)

pub overflow_add-number : goal.overflow_add-number
overflow_add-number c = omega (arith, c.count_to.ensures.few)

pub overflow_mul-result : goal.overflow_mul-result
overflow_mul-result c =
    let number = c.count_to.result + c.from-2.result in
    let few : number ≤ 36893488147419103232 = omega (arith, c.count_to.ensures.few) in
    let period : c.from-4.result ≤ 10000 = omega (arith, c.from-4.ensures, c.clock_of-clock.ensures.lawful.period) in
    omega (arith, small number c.from-4.result 36893488147419103232 10000 few period)

pub overflow_add-result : goal.overflow_add-result
overflow_add-result c =
    let number = c.count_to.result + c.from-2.result in
    let few : number ≤ 36893488147419103232 = omega (arith, c.count_to.ensures.few) in
    let period : c.from-4.result ≤ 10000 = omega (arith, c.from-4.ensures, c.clock_of-clock.ensures.lawful.period) in
    omega (arith, small number c.from-4.result 36893488147419103232 10000 few period)
