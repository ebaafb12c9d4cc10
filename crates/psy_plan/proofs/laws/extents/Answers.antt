-- What is left of the proof of `laws::extents`.
use Rattle.psy_plan.proofs.SupplyLemmas.{LinesHold, looked_met, overload_looked, small_graphs, supply_infeasible}
use Rattle.psy_plan.proofs.laws.extents.Goals as goal
use Rattle.psy_plan.proofs.laws.extents.Goals.{After-greatest}

-- What the laws say of lines and demands
hold : After-greatest → LinesHold
hold c = record { every = c.always.ensures.every; on = c.rates.ensures.on; greatest = c.greatest.ensures.some }

pub returns-clause-met : goal.returns-clause-met
returns-clause-met c unit graphs lines until extent text drawn rated looked feasible =
    let laws = (goal.at.returns-clause-met c).After-greatest in
    looked_met (hold laws) unit graphs lines until (laws.one_graph.ensures.edges unit graphs text drawn) (small_graphs unit graphs drawn) rated extent looked feasible

pub returns-clause-passed : goal.returns-clause-passed
returns-clause-passed c unit graphs lines until within processor demand extent text drawn rated looked over =
    let laws = (goal.at.returns-clause-passed c).After-greatest in
    overload_looked (hold laws) unit graphs lines until (laws.one_graph.ensures.edges unit graphs text drawn) (small_graphs unit graphs drawn) rated within processor demand extent looked over

pub returns-clause-refused : goal.returns-clause-refused
returns-clause-refused c = let laws = (goal.at.returns-clause-refused c).After-greatest in supply_infeasible (hold laws) laws.one_graph.ensures.edges
