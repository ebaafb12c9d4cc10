-- What is left of the proof of `word::number`.
use Rattle.std.proofs.Common.{sym, ◌∙◌}
use Rattle.psy_text.proofs.Digits.{is_number-digits, number_of-read}
use Rattle.psy_text.proofs.word.number.Goals as goal

pub decimal_value-requires : goal.decimal_value-requires
decimal_value-requires c = is_number-digits c.args.word.now (sym c.is_number.ensures ∙ c.if-is_number.true)

pub returns-then-is_number-clause-value : goal.returns-then-is_number-clause-value
returns-then-is_number-clause-value c = (number_of-read c.args.word.now c.decimal_value.result (sym c.is_number.ensures ∙ c.if-is_number.true) c.decimal_value.ensures).0

pub returns-then-is_number-clause-small : goal.returns-then-is_number-clause-small
returns-then-is_number-clause-small c = (number_of-read c.args.word.now c.decimal_value.result (sym c.is_number.ensures ∙ c.if-is_number.true) c.decimal_value.ensures).1
