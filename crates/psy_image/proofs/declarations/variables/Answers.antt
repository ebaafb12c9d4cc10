-- What is left of the proof of `declarations::variables`.
use Rattle.std.proofs.Common.{arith}
use Rattle.std.proofs.lemmas.Result.{err_from_is_err_and}
use Rattle.psy_image.specs.Images.{variable}
use Rattle.psy_image.proofs.Loops.{goes_on, stops, is_done}
use Rattle.psy_image.proofs.declarations.variables.Goals as goal

pub returns-in_err-rest-clause-reads : goal.returns-in_err-rest-clause-reads
returns-in_err-rest-clause-reads c =
    let p = err_from_is_err_and c.from_residual-in_err-rest.result c.from_residual-in_err-rest.ensures.1 in
    rw (p.1, p.2) (stops c.in_err-rest.field-0.0 (variable c.args.clocks) c.in_ok-count.count c.variables.counter _ _ _ c.variables-test.true c.in_err-rest.ensures.reads c.variables.invariant.reads)

pub variables-preserved : goal.variables-preserved
variables-preserved c = record {
  reads = goes_on (variable c.args.clocks) c.in_ok-count.count c.variables.counter _ _ _ _ _ c.variables-test.true c.in_ok-rest.ensures.reads c.variables.invariant.reads;
  few = omega (arith, c.variables.invariant.few, c.in_ok-rest.ensures.more);
}

pub returns-clause-reads : goal.returns-clause-reads
returns-clause-reads c = is_done (variable c.args.clocks) c.in_ok-count.count c.variables.counter _ _ _ c.variables-test.false c.variables.invariant.reads
