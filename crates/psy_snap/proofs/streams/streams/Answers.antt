-- What is left of the proof of `streams::streams`.
use Rattle.std.proofs.Common.{arith, length}
use Rattle.std.proofs.lemmas.Result.{err_from_is_err_and}
use Rattle.psy_snap.specs.Forms.{form_of, stream_form}
use Rattle.psy_snap.specs.Reading.{stream_at}
use Rattle.psy_snap.proofs.Loops.{goes_on_below, stops_below, is_done_below}
use Rattle.psy_snap.proofs.streams.streams.Goals as goal

pub returns-in_err-rest : goal.returns-in_err-rest
unfolding form_of
returns-in_err-rest c =
    let p = err_from_is_err_and c.from_residual.result c.from_residual.ensures.1 in
    rw (p.1, p.2) (stops_below (stream_at c.args.date c.args.agents.now) (stream_form c.args.plan.now) (length c.args.plan.now.unit.streams) c.streams.number c.in_err-rest.field-0.0 _ _ _ (omega (arith, c.streams-test.true, c.len-number-end.ensures)) c.in_err-rest.ensures c.streams.invariant)

pub streams-preserved : goal.streams-preserved
unfolding form_of
streams-preserved c = goes_on_below (stream_at c.args.date c.args.agents.now) (stream_form c.args.plan.now) (length c.args.plan.now.unit.streams) c.streams.number _ _ _ _ _ (omega (arith, c.streams-test.true, c.len-number-end.ensures)) c.in_ok-rest.ensures c.streams.invariant

pub returns : goal.returns
unfolding form_of
returns c = is_done_below (stream_at c.args.date c.args.agents.now) (stream_form c.args.plan.now) (length c.args.plan.now.unit.streams) c.streams.number _ _ _ (omega (arith, c.streams-test.false, c.len-number-end.ensures)) c.streams.invariant
