-- What is left of the proof of `functions::values`.
use Rattle.std.proofs.lemmas.Result.{err_from_is_err_and}
use Rattle.psy_image.specs.Images.{value}
use Rattle.psy_image.proofs.Loops.{goes_on, stops, is_done}
use Rattle.psy_image.proofs.functions.values.Goals as goal

pub returns-in_err-rest : goal.returns-in_err-rest
returns-in_err-rest c =
    let p = err_from_is_err_and c.from_residual-in_err-rest.result c.from_residual-in_err-rest.ensures.1 in
    rw (p.1, p.2) (stops c.in_err-rest.field-0.0 value c.in_ok-count.count c.values.counter _ _ _ c.values-test.true c.in_err-rest.ensures c.values.invariant)

pub values-preserved : goal.values-preserved
values-preserved c = goes_on value c.in_ok-count.count c.values.counter _ _ _ _ _ c.values-test.true c.in_ok-rest.ensures c.values.invariant

pub returns : goal.returns
returns c = is_done value c.in_ok-count.count c.values.counter _ _ _ c.values-test.false c.values.invariant
