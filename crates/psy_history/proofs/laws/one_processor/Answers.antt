-- What is left of the proof of `laws::one_processor`.
use Rattle.std.proofs.Common.{◌≡◌, sym, ap, ◌∙◌, subst, arith}
use Rattle.psy_history.specs.Processors.{edges_for}
use Rattle.psy_meaning.specs.Demand.{IsFeasible}
use Rattle.psy_history.proofs.OwnAgents.{edges_all, processor_zero, served_all}
use Rattle.psy_history.proofs.laws.one_processor.Goals as goal

pub returns-clause-agents : goal.returns-clause-agents
returns-clause-agents c unit agent one = processor_zero unit one agent

pub returns-clause-orders : goal.returns-clause-orders
returns-clause-orders c unit order one = served_all unit 0 order (processor_zero unit one)

pub returns-clause-edges : goal.returns-clause-edges
returns-clause-edges c unit graphs one = edges_all unit 0 graphs (processor_zero unit one)

pub returns-clause-feasible : goal.returns-clause-feasible
returns-clause-feasible c unit graphs quantum until one feasible processor there =
    let only : processor ≡ 0 = omega (arith, there, one) in
    subst (λ own. IsFeasible own quantum until) (sym (ap (λ p. edges_for unit p graphs) only ∙ edges_all unit 0 graphs (processor_zero unit one))) feasible
