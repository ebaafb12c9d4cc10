-- What is left of the proof of `agents::copies`.
use Rattle.std.proofs.lemmas.Result.{err_from_is_err_and}
use Rattle.psy_image.specs.Images.{copy}
use Rattle.psy_image.proofs.Loops.{goes_on_each, stops_each, is_done_each}
use Rattle.psy_image.proofs.agents.copies.Goals as goal

pub returns-in_err-rest-2 : goal.returns-in_err-rest-2
returns-in_err-rest-2 c =
    let p = err_from_is_err_and c.from_residual-in_err-rest-2.result c.from_residual-in_err-rest-2.ensures.1 in
    rw (p.1, p.2) (stops_each c.in_err-rest-2.field-0.0 copy c.args.owned.now c.owned.variable-index _ _ _ _ c.owned-test.true c.in_err-rest-2.ensures c.owned.invariant)

pub owned-preserved : goal.owned-preserved
owned-preserved c = goes_on_each copy c.args.owned.now c.owned.variable-index _ _ _ _ _ _ c.owned-test.true c.in_ok-rest-2.ensures c.owned.invariant

pub returns : goal.returns
returns c = is_done_each copy c.args.owned.now c.owned.variable-index _ _ _ c.owned-test.false c.owned.invariant
