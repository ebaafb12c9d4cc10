-- What is left of the proof of `front::number`.
use Rattle.std.proofs.Common.{decimal, refl, sym}
use Rattle.std.specs.Char.{is_ascii_digit}
use Rattle.psy_text.proofs.lemmas.Runs.{Cuts-once}
use Rattle.psy_text.proofs.lemmas.Numerals.{Each-decimal}
use Rattle.psy_text.proofs.front.number.Goals as goal

pub returns-in_err-numeral_value-clause-none : goal.returns-in_err-numeral_value-clause-none
returns-in_err-numeral_value-clause-none c none n rest small cuts =
    let once = Cuts-once is_ascii_digit c.args.text.now (decimal n) c.cut_digits.result.0.now rest c.cut_digits.result.1.now (Each-decimal n small) c.cut_digits.ensures.each cuts c.cut_digits.ensures.cuts in
    c.in_err-numeral_value.ensures.none refl n small (sym once.0)
