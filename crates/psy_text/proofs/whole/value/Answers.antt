-- What is left of the proof of `whole::value`.
use Rattle.std.proofs.Common.{[], length, sym, ap, ◌∙◌, arith, rules}
use Rattle.std.specs.Fmt.{signed_decimal}
use Rattle.std.proofs.lemmas.Bool.{eqb-false}
use Rattle.std.proofs.lemmas.List.{append-nil}
use Rattle.psy_text.proofs.whole.value.Goals as goal

pub returns-else-is_empty-clause-none : goal.returns-else-is_empty-clause-none
returns-else-is_empty-clause-none c none value fits is =
    let rest = c.in_ok-value.rest.now in
    let one = c.one_value.ensures c.args.word.now c.in_ok-value.value value rest [] (search rules) fits c.in_ok-value.ensures.some (is ∙ sym (append-nil (signed_decimal value)), tt) in
    omega (arith, eqb-false (length rest) 0 (sym c.if-is_empty.ensures), ap length one.1)
