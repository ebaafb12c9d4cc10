-- What is left of the proof of `variables::ring`.
use Rattle.std.proofs.Common.{w32}
use Rattle.std.specs.Int.{cast_signed}
use Rattle.std.proofs.lemmas.Result.{err_from_is_err_and}
use Rattle.psy_snap.specs.Reading.{said_at}
use Rattle.psy_snap.proofs.Loops.{goes_on_below, stops_below, is_done_below}
use Rattle.psy_snap.proofs.variables.ring.Goals as goal

pub returns-in_err-rest : goal.returns-in_err-rest
returns-in_err-rest c =
    let p = err_from_is_err_and c.from_residual.result c.from_residual.ensures.1 in
    rw (p.1, p.2) (stops_below (said_at (cast_signed w32)) _ c.args.size c.places.back c.in_err-rest.field-0.0 _ _ _ c.places-test.true c.in_err-rest.ensures c.places.invariant)

pub places-preserved : goal.places-preserved
places-preserved c = goes_on_below (said_at (cast_signed w32)) _ c.args.size c.places.back _ _ _ _ _ c.places-test.true c.in_ok-rest.ensures c.places.invariant

pub returns : goal.returns
returns c = is_done_below (said_at (cast_signed w32)) _ c.args.size c.places.back _ _ _ c.places-test.false c.places.invariant
