-- What is left of the proof of `decimal::decimal_value`.
use Rattle.std.proofs.Common.{◌≡◌, ◌≤◌, ◌+◌, ◌-◌, ◌*◌, ◌^◌, length, drop, get_or, ap, ◌∙◌, arith}
use Rattle.psy_tree.specs.Lexemes.{decimal_value}
use Rattle.psy_text.proofs.Digits.{decimal_value-more, decimal_value-front}
use Rattle.psy_text.proofs.decimal.decimal_value.Goals as goal

pub returns-in_err-checked_mul : goal.returns-in_err-checked_mul
returns-in_err-checked_mul c =
    let most = decimal_value-front c.args.digits.now c.loop-digit.digit-index c.loop-digit.value c.loop-digit-test.true c.loop-digit.invariant.so_far in
    let far : 2 ^ 64 ≤ decimal_value c.args.digits.now = omega (arith, c.in_err-checked_mul.ensures, most) in
    rw c.from_residual.ensures far

pub returns-in_err-value : goal.returns-in_err-value
returns-in_err-value c =
    let most = decimal_value-front c.args.digits.now c.loop-digit.digit-index c.loop-digit.value c.loop-digit-test.true c.loop-digit.invariant.so_far in
    let far : 2 ^ 64 ≤ decimal_value c.args.digits.now = omega (arith, c.in_err-value.ensures, c.in_ok-checked_mul.ensures, most, c.from.ensures) in
    rw c.from_residual-in_err-value.ensures far

pub loop-digit-preserved : goal.loop-digit-preserved
loop-digit-preserved c =
    let digits = c.args.digits.now in
    let at = c.loop-digit.digit-index in
    let next : c.in_ok-value.value ≡ c.loop-digit.value * 10 + (get_or digits at 0 - 48) = omega (arith, c.in_ok-value.ensures, c.in_ok-checked_mul.ensures, c.from.ensures) in
    record {
      small = omega (arith, c.in_ok-value.ensures);
      so_far = ap (λ v. v * 10 ^ length (drop (at + 1) digits) + decimal_value (drop (at + 1) digits)) next ∙ decimal_value-more digits at c.loop-digit.value c.loop-digit-test.true c.loop-digit.invariant.so_far;
    }
