-- What is left of the proof of `laws::costs`.
use Rattle.psy_base.specs.declared.limits.TheConstants.{COST}
use Rattle.psy_meaning.specs.Flow.{HasCost}
use Rattle.psy_flow.proofs.CappedCosts.{some_cost}
use Rattle.psy_flow.proofs.Cuts.{one_cut}
use Rattle.psy_flow.proofs.laws.costs.Goals as goal

pub returns-clause-some : goal.returns-clause-some
returns-clause-some c unit number agent point its inside =
    let known = c.known.ensures unit number agent its in
    some_cost unit.functions agent point known.none (known.goes_on point)

pub returns-clause-one : goal.returns-clause-one
returns-clause-one c unit number agent point cost other its = one_cut (HasCost unit.functions agent point) COST cost other
