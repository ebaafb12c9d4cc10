-- What is left of the proof of `agents::values`.
use Rattle.std.proofs.Common.{arith, replicate, w32}
use Rattle.std.specs.Int.{cast_signed}
use Rattle.std.proofs.lemmas.List.{get_or-replicate, length-replicate}
use Rattle.std.proofs.lemmas.Result.{err_from_is_err_and}
use Rattle.psy_snap.specs.Cuts.{any_number}
use Rattle.psy_snap.specs.Reading.{said_at}
use Rattle.psy_snap.proofs.Loops.{goes_on, stops, is_done}
use Rattle.psy_snap.proofs.agents.values.Goals as goal

pub returns-in_err-rest : goal.returns-in_err-rest
returns-in_err-rest c =
    let p = err_from_is_err_and c.from_residual.result c.from_residual.ensures.1 in
    rw (p.1, p.2) (stops c.in_err-rest.field-0.0 (said_at (cast_signed w32)) (replicate c.args.count any_number) c.values.counter any_number _ _ _
    (omega (arith, c.values-test.true, length-replicate c.args.count any_number)) (get_or-replicate c.args.count c.values.counter any_number any_number c.values-test.true) c.in_err-rest.ensures c.values.invariant)

pub values-preserved : goal.values-preserved
values-preserved c = goes_on (said_at (cast_signed w32)) (replicate c.args.count any_number) c.values.counter any_number _ _ _ _ _
    (omega (arith, c.values-test.true, length-replicate c.args.count any_number)) (get_or-replicate c.args.count c.values.counter any_number any_number c.values-test.true) c.in_ok-rest.ensures c.values.invariant

pub returns : goal.returns
returns c = is_done (said_at (cast_signed w32)) (replicate c.args.count any_number) c.values.counter _ _ _
    (omega (arith, c.values-test.false, length-replicate c.args.count any_number)) c.values.invariant
