-- What is left of the proof of `laws::one_plan`.
use Rattle.psy_plan.proofs.DecidedPlans.{decided_costing, decided_graphing, decided_supplying, decided_translating}
use Rattle.psy_plan.proofs.DecidedSteps.{StepsDecide}
use Rattle.psy_plan.proofs.laws.one_plan.Goals as goal
use Rattle.psy_plan.proofs.laws.one_plan.Goals.{After-horizons}

-- What the laws say of the steps
decide : After-horizons → StepsDecide
decide c = record {
  tokens = c.one_reading.ensures.tokens;
  lexical = c.one_reading.ensures.fault;
  tokens_or_lexical = c.one_reading.ensures.either;
  tokens_not_lexical = c.one_reading.ensures.not_both;
  first_deep = c.one_tree.ensures.deep;
  deep_or_shallow = c.one_tree.ensures.depth;
  deep_not_shallow = c.one_tree.ensures.not_both;
  tree = c.one_tree.ensures.one;
  fault = c.one_tree.ensures.one_fault;
  tree_or_none = c.one_tree.ensures.some;
  none_at_fault = c.one_tree.ensures.fault;
  fault_no_tree = c.one_tree.ensures.no_fault;
  unit = c.one_verdict.ensures.stands;
  rule = c.one_verdict.ensures.fault;
  count = c.one_verdict.ensures.count;
  verdict = c.one_verdict.ensures.some;
  unit_not_rule = c.one_verdict.ensures.stands_or_fault;
  unit_not_count = c.one_verdict.ensures.stands_or_count;
  rule_not_none = c.one_verdict.ensures.fault_or_none;
  graphs = c.one_graph.ensures.same;
  cause = c.one_graph.ensures.cause;
  graphs_or_cause = c.one_graph.ensures.some;
  graphs_not_cause = c.one_graph.ensures.apart;
  edges = c.one_graph.ensures.edges;
  cost = c.costs.ensures.one;
  some_cost = c.costs.ensures.some;
  timing = c.one_graph.ensures.timing;
  some_nexts = c.nexts.ensures.some;
  sizes = c.one_size.ensures.same;
  size_fault = c.one_size.ensures.cause;
  sizes_or_fault = c.one_size.ensures.some;
  sizes_not_fault = c.one_size.ensures.apart;
  greatest = c.greatest.ensures.some;
  line = c.rates.ensures.one;
  some_line = c.rates.ensures.some;
  horizon = c.horizons.ensures.only;
  horizon_or_none = c.horizons.ensures.groups;
}

pub returns-clause-program : goal.returns-clause-program
returns-clause-program c = decided_translating (decide (goal.at.returns-clause-program c).After-horizons)

pub returns-clause-graphs : goal.returns-clause-graphs
returns-clause-graphs c = decided_graphing (decide (goal.at.returns-clause-graphs c).After-horizons)

pub returns-clause-costs : goal.returns-clause-costs
returns-clause-costs c = decided_costing (decide (goal.at.returns-clause-costs c).After-horizons)

pub returns-clause-supply : goal.returns-clause-supply
returns-clause-supply c = decided_supplying (decide (goal.at.returns-clause-supply c).After-horizons)
