-- What is left of the proof of `instructions::instrs`.
use Rattle.std.proofs.lemmas.Result.{err_from_is_err_and}
use Rattle.psy_image.specs.Images.{instr}
use Rattle.psy_image.proofs.Loops.{goes_on, stops, is_done}
use Rattle.psy_image.proofs.instructions.instrs.Goals as goal

pub returns-in_err-rest : goal.returns-in_err-rest
returns-in_err-rest c =
    let p = err_from_is_err_and c.from_residual-in_err-rest.result c.from_residual-in_err-rest.ensures.1 in
    rw (p.1, p.2) (stops c.in_err-rest.field-0.0 instr c.in_ok-count.count c.instrs.counter _ _ _ c.instrs-test.true c.in_err-rest.ensures c.instrs.invariant)

pub instrs-preserved : goal.instrs-preserved
instrs-preserved c = goes_on instr c.in_ok-count.count c.instrs.counter _ _ _ _ _ c.instrs-test.true c.in_ok-rest.ensures c.instrs.invariant

pub returns : goal.returns
returns c = is_done instr c.in_ok-count.count c.instrs.counter _ _ _ c.instrs-test.false c.instrs.invariant
