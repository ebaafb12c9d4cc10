-- What is left of the proof of `numeral::numeral_value`.
use Rattle.std.specs.Prelude.{IsTrue}
use Rattle.std.specs.Char.{is_ascii_digit}
use Rattle.std.proofs.lemmas.List.Elements.{All-from_recursion}
use Rattle.psy_text.proofs.Numbers.{decimal-read, decimal-unread, no_leading_zero, some_digits}
use Rattle.psy_text.proofs.numeral.numeral_value.Goals as goal

pub decimal_value-requires : goal.decimal_value-requires
decimal_value-requires c = All-from_recursion (λ b. IsTrue (is_ascii_digit b)) c.args.digits.now c.requires

pub returns-then-is_number-clause-some : goal.returns-then-is_number-clause-some
returns-then-is_number-clause-some c =
    let number = c.is_number.ensures.0 c.if-is_number.true in
    decimal-read c.args.digits.now c.decimal_value.result c.requires number.0 number.1 c.decimal_value.ensures

pub returns-then-is_number-clause-none : goal.returns-then-is_number-clause-none
returns-then-is_number-clause-none c = decimal-unread c.args.digits.now c.decimal_value.result c.decimal_value.ensures

pub returns-else-is_number-clause-none : goal.returns-else-is_number-clause-none
returns-else-is_number-clause-none c none n small written =
    let passed = c.is_number.ensures.1 (some_digits c.args.digits.now n small written, no_leading_zero c.args.digits.now n small written) in
    cc
