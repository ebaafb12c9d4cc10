-- What is left of the proof of `agents::agents`.
use Rattle.std.proofs.Common.{arith, length}
use Rattle.std.proofs.lemmas.Result.{err_from_is_err_and}
use Rattle.psy_snap.specs.Forms.{agent_form, form_of}
use Rattle.psy_snap.specs.Reading.{agent_at}
use Rattle.psy_snap.proofs.Loops.{goes_on_below, stops_below, is_done_below}
use Rattle.psy_snap.proofs.agents.agents.Goals as goal

pub returns-in_err-rest-clause-reads : goal.returns-in_err-rest-clause-reads
unfolding form_of
returns-in_err-rest-clause-reads c =
    let p = err_from_is_err_and c.from_residual.result c.from_residual.ensures.1 in
    rw (p.1, p.2) (stops_below (agent_at c.args.date) (agent_form c.args.plan.now c.args.graphs.now) (length c.args.plan.now.unit.agents) c.agents.number c.in_err-rest.field-0.0 _ _ _ (omega (arith, c.agents-test.true, c.len-number-end.ensures)) c.in_err-rest.ensures.reads c.agents.invariant.reads)

pub agents-preserved : goal.agents-preserved
unfolding form_of
agents-preserved c = record { reads = goes_on_below (agent_at c.args.date) (agent_form c.args.plan.now c.args.graphs.now) (length c.args.plan.now.unit.agents) c.agents.number _ _ _ _ _ (omega (arith, c.agents-test.true, c.len-number-end.ensures)) c.in_ok-rest.ensures.reads c.agents.invariant.reads; count = omega (arith, c.agents.invariant.count, c.in_ok-rest.ensures.more) }

pub returns-clause-reads : goal.returns-clause-reads
unfolding form_of
returns-clause-reads c = is_done_below (agent_at c.args.date) (agent_form c.args.plan.now c.args.graphs.now) (length c.args.plan.now.unit.agents) c.agents.number _ _ _ (omega (arith, c.agents-test.false, c.len-number-end.ensures)) c.agents.invariant.reads
