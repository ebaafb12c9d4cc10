-- What is left of the proof of `variables::most_of_all`.
use Rattle.std.proofs.Common.{◌≡◌, ◌+◌, length, subst, arith}
use Rattle.psy_meaning.specs.KnownWays.{Listed, Ways}
use Rattle.psy_sizes.specs.Passing.{HasDatesOf, HasDatesBefore}
use Rattle.psy_base.specs.Extremes.{IsMost}
use Rattle.psy_sizes.proofs.Passed.{most_max, agent_more}
use Rattle.psy_sizes.proofs.ReadLists.{graph_read}
use Rattle.psy_sizes.proofs.variables.most_of_all.Goals as goal

pub most_of_agent-requires-clause-graph : goal.most_of_agent-requires-clause-graph
most_of_agent-requires-clause-graph c = graph_read c.args.unit.now c.args.ways.now.nexts c.args.graphs.now c.agents.number c.index-graphs-number.result c.requires.graphs c.agents-test.true c.index-graphs-number.is

pub agents-preserved : goal.agents-preserved
agents-preserved c =
    let unit = c.args.unit.now in
    let ways : Ways = Listed c.args.ways.now in
    let nexts = c.args.ways.now.nexts in
    let variable = c.args.variable in
    let clock = c.args.clock in
    let k = c.agents.number in
    most_max (HasDatesBefore unit ways nexts variable clock k) (HasDatesOf unit ways nexts variable clock k) (HasDatesBefore unit ways nexts variable clock (k + 1)) c.agents.most c.most_of_agent.result c.max-most.result c.max-most.ensures
    c.agents.invariant c.most_of_agent.ensures (agent_more unit ways nexts variable clock k)

pub returns : goal.returns
returns c =
    let all : c.agents.number ≡ length c.args.unit.now.agents = omega (arith, c.agents-test.false, c.agents.auto.number-end, c.requires.graphs.count) in
    subst (λ k. IsMost (HasDatesBefore c.args.unit.now (Listed c.args.ways.now) c.args.ways.now.nexts c.args.variable c.args.clock k) c.agents.most) all c.agents.invariant
