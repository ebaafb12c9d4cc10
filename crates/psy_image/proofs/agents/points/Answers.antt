-- What is left of the proof of `agents::points`.
use Rattle.std.proofs.lemmas.Result.{err_from_is_err_and}
use Rattle.psy_image.specs.Images.{point}
use Rattle.psy_image.proofs.Loops.{goes_on, stops, is_done}
use Rattle.psy_image.proofs.agents.points.Goals as goal

pub returns-in_err-rest : goal.returns-in_err-rest
returns-in_err-rest c =
    let p = err_from_is_err_and c.from_residual-in_err-rest.result c.from_residual-in_err-rest.ensures.1 in
    rw (p.1, p.2) (stops c.in_err-rest.field-0.0 (point c.args.clocks) c.in_ok-count.count c.points.counter _ _ _ c.points-test.true c.in_err-rest.ensures c.points.invariant)

pub points-preserved : goal.points-preserved
points-preserved c = goes_on (point c.args.clocks) c.in_ok-count.count c.points.counter _ _ _ _ _ c.points-test.true c.in_ok-rest.ensures c.points.invariant

pub returns : goal.returns
returns c = is_done (point c.args.clocks) c.in_ok-count.count c.points.counter _ _ _ c.points-test.false c.points.invariant
