-- What is left of the proof of `whole::number`.
use Rattle.std.proofs.Common.{[], decimal, length, refl, sym, ap, ◌∙◌, arith, rules}
use Rattle.std.proofs.lemmas.Bool.{eqb-false}
use Rattle.std.proofs.lemmas.List.{append-nil}
use Rattle.psy_text.proofs.whole.number.Goals as goal

pub returns-in_err-number-clause-none : goal.returns-in_err-number-clause-none
returns-in_err-number-clause-none c none number fits is = c.in_err-number.ensures.none refl number [] fits (is ∙ sym (append-nil (decimal number)), tt)

pub returns-else-is_empty-clause-none : goal.returns-else-is_empty-clause-none
returns-else-is_empty-clause-none c none number fits is =
    let rest = c.in_ok-number.rest.now in
    let one = c.one_number.ensures c.args.word.now c.in_ok-number.number number rest [] (search rules) fits c.in_ok-number.ensures.some (is ∙ sym (append-nil (decimal number)), tt) in
    omega (arith, eqb-false (length rest) 0 (sym c.if-is_empty.ensures), ap length one.1)
