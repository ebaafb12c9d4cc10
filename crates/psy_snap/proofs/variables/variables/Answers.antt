-- What is left of the proof of `variables::variables`.
use Rattle.std.proofs.Common.{arith, length}
use Rattle.std.proofs.lemmas.Result.{err_from_is_err_and}
use Rattle.psy_snap.specs.Forms.{form_of, variable_form}
use Rattle.psy_snap.specs.Reading.{variable_at}
use Rattle.psy_snap.proofs.Loops.{goes_on_below, stops_below, is_done_below}
use Rattle.psy_snap.proofs.variables.variables.Goals as goal

pub returns-in_err-rest : goal.returns-in_err-rest
unfolding form_of
returns-in_err-rest c =
    let p = err_from_is_err_and c.from_residual.result c.from_residual.ensures.1 in
    rw (p.1, p.2) (stops_below (variable_at c.args.date) (variable_form c.args.plan.now) (length c.args.plan.now.unit.variables) c.variables.number c.in_err-rest.field-0.0 _ _ _ (omega (arith, c.variables-test.true, c.len-number-end.ensures)) c.in_err-rest.ensures c.variables.invariant)

pub variables-preserved : goal.variables-preserved
unfolding form_of
variables-preserved c = goes_on_below (variable_at c.args.date) (variable_form c.args.plan.now) (length c.args.plan.now.unit.variables) c.variables.number _ _ _ _ _ (omega (arith, c.variables-test.true, c.len-number-end.ensures)) c.in_ok-rest.ensures c.variables.invariant

pub returns : goal.returns
unfolding form_of
returns c = is_done_below (variable_at c.args.date) (variable_form c.args.plan.now) (length c.args.plan.now.unit.variables) c.variables.number _ _ _ (omega (arith, c.variables-test.false, c.len-number-end.ensures)) c.variables.invariant
