-- What is left of the proof of `declarations::streams`.
use Rattle.std.proofs.lemmas.Result.{err_from_is_err_and}
use Rattle.psy_image.specs.Images.{stream}
use Rattle.psy_image.proofs.Loops.{goes_on, stops, is_done}
use Rattle.psy_image.proofs.declarations.streams.Goals as goal

pub returns-in_err-rest : goal.returns-in_err-rest
returns-in_err-rest c =
    let p = err_from_is_err_and c.from_residual-in_err-rest.result c.from_residual-in_err-rest.ensures.1 in
    rw (p.1, p.2) (stops c.in_err-rest.field-0.0 (stream c.args.clocks) c.in_ok-count.count c.streams.counter _ _ _ c.streams-test.true c.in_err-rest.ensures c.streams.invariant)

pub streams-preserved : goal.streams-preserved
streams-preserved c = goes_on (stream c.args.clocks) c.in_ok-count.count c.streams.counter _ _ _ _ _ c.streams-test.true c.in_ok-rest.ensures c.streams.invariant

pub returns : goal.returns
returns c = is_done (stream c.args.clocks) c.in_ok-count.count c.streams.counter _ _ _ c.streams-test.false c.streams.invariant
