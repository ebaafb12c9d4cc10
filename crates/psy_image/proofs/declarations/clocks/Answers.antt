-- What is left of the proof of `declarations::clocks`.
use Rattle.std.proofs.Common.{arith}
use Rattle.std.proofs.lemmas.Result.{err_from_is_err_and}
use Rattle.psy_image.specs.Images.{clock}
use Rattle.psy_image.proofs.Loops.{goes_on, stops, is_done}
use Rattle.psy_image.proofs.declarations.clocks.Goals as goal

pub returns-in_err-rest-clause-reads : goal.returns-in_err-rest-clause-reads
returns-in_err-rest-clause-reads c =
    let p = err_from_is_err_and c.from_residual-in_err-rest.result c.from_residual-in_err-rest.ensures.1 in
    rw (p.1, p.2) (stops c.in_err-rest.field-0.0 clock c.in_ok-count.count c.clocks.counter _ _ _ c.clocks-test.true c.in_err-rest.ensures.reads c.clocks.invariant.reads)

pub clocks-preserved : goal.clocks-preserved
clocks-preserved c = record {
  reads = goes_on clock c.in_ok-count.count c.clocks.counter _ _ _ _ _ c.clocks-test.true c.in_ok-rest.ensures.reads c.clocks.invariant.reads;
  few = omega (arith, c.clocks.invariant.few, c.in_ok-rest.ensures.more);
}

pub returns-clause-reads : goal.returns-clause-reads
returns-clause-reads c = is_done clock c.in_ok-count.count c.clocks.counter _ _ _ c.clocks-test.false c.clocks.invariant.reads
