-- What is left of the proof of `functions::functions`.
use Rattle.std.proofs.lemmas.Result.{err_from_is_err_and}
use Rattle.psy_image.specs.Images.{function}
use Rattle.psy_image.proofs.Loops.{goes_on, stops, is_done}
use Rattle.psy_image.proofs.functions.functions.Goals as goal

pub returns-in_err-rest : goal.returns-in_err-rest
returns-in_err-rest c =
    let p = err_from_is_err_and c.from_residual-in_err-rest.result c.from_residual-in_err-rest.ensures.1 in
    rw (p.1, p.2) (stops c.in_err-rest.field-0.0 function c.in_ok-count.count c.functions.counter _ _ _ c.functions-test.true c.in_err-rest.ensures c.functions.invariant)

pub functions-preserved : goal.functions-preserved
functions-preserved c = goes_on function c.in_ok-count.count c.functions.counter _ _ _ _ _ c.functions-test.true c.in_ok-rest.ensures c.functions.invariant

pub returns : goal.returns
returns c = is_done function c.in_ok-count.count c.functions.counter _ _ _ c.functions-test.false c.functions.invariant
