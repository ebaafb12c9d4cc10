-- What is left of the proof of `agents::agents`.
use Rattle.std.proofs.Common.{arith}
use Rattle.std.proofs.lemmas.Result.{err_from_is_err_and}
use Rattle.psy_image.specs.Images.{agent}
use Rattle.psy_image.proofs.Loops.{goes_on, stops, is_done}
use Rattle.psy_image.proofs.agents.agents.Goals as goal

pub returns-in_err-rest : goal.returns-in_err-rest
returns-in_err-rest c =
    let p = err_from_is_err_and c.from_residual-in_err-rest.result c.from_residual-in_err-rest.ensures.1 in
    rw (p.1, p.2) (stops c.in_err-rest.field-0.0 (agent c.args.clocks c.args.variables.now) c.in_ok-count.count c.agents.counter _ _ _ c.agents-test.true c.in_err-rest.ensures.reads c.agents.invariant.reads)

pub agents-preserved : goal.agents-preserved
agents-preserved c = record {
  reads = goes_on (agent c.args.clocks c.args.variables.now) c.in_ok-count.count c.agents.counter _ _ _ _ _ c.agents-test.true c.in_ok-rest.ensures.reads c.agents.invariant.reads;
  few = omega (arith, c.agents.invariant.few, c.in_ok-rest.ensures.more);
}

pub returns : goal.returns
returns c = is_done (agent c.args.clocks c.args.variables.now) c.in_ok-count.count c.agents.counter _ _ _ c.agents-test.false c.agents.invariant.reads
