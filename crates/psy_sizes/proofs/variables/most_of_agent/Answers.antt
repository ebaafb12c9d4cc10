-- What is left of the proof of `variables::most_of_agent`.
use Rattle.std.proofs.Common.{◌≡◌, ◌<◌, ◌≤◌, [], length, get_or, sym, ap, subst, ◌∙◌, arith}
use Rattle.std.specs.Int.{IsGcd}
use Rattle.std.specs.List.{All}
use Rattle.std.proofs.lemmas.List.{get_or_default}
use Rattle.psy_tree.specs.declared.unit.AgentDecl.{AgentDecl}
use Rattle.psy_tree.specs.Parts.{agent_at, no_agent}
use Rattle.psy_base.specs.Extremes.{IsMost}
use Rattle.psy_meaning.specs.Graph.{IsCycle}
use Rattle.psy_meaning.specs.KnownWays.{Listed}
use Rattle.psy_meaning.specs.RingSizes.{agent_timing}
use Rattle.psy_sizes.specs.Passing.{HasDatesAt, HasDatesOf}
use Rattle.psy_sizes.specs.Windows.{timing_by}
use Rattle.psy_sizes.proofs.Actions.{nodes_tell, nodes_within, phases_within}
use Rattle.psy_sizes.proofs.Multiples.{gcd_some}
use Rattle.psy_sizes.proofs.Passed.{most_alike}
use Rattle.psy_sizes.proofs.ReadLists.{looks_agent, looks_points}
use Rattle.psy_sizes.proofs.variables.most_of_agent.Goals as goal
use Rattle.psy_sizes.proofs.variables.most_of_agent.Goals.{After-index-as_slice-number, After-as_slice-4}

own : (c : After-index-as_slice-number) → c.index-as_slice-number.result ≡ agent_at c.args.unit.now c.args.number
own c =
    let agents = c.args.unit.now.agents in
    let agent = c.index-as_slice-number.result in
    c.index-as_slice-number.is ∙ ap (λ xs. get_or xs c.args.number agent) c.as_slice.ensures ∙ get_or_default agents c.args.number agent no_agent c.requires.number

-- What is shared with the cycle of the agent
shared_is : (c : After-as_slice-4) → (1 ≤ c.requires.graph.0.drawn.cycle) × IsGcd c.requires.graph.0.drawn.cycle c.args.clock.period c.shared_divisor-shared.result
shared_is c =
    let unit = c.args.unit.now in
    let agent = c.index-as_slice-number.result in
    let drawn = c.requires.graph.0 in
    let cycle = drawn.drawn.cycle in
    let points : c.as_slice-3.result.now ≡ (agent_at unit c.args.number).points = c.as_slice-3.ensures ∙ ap (λ (a : AgentDecl). a.points) (own (goal.at.After-as_slice-4 c).After-index-as_slice-number) in
    let by_clocks : IsCycle (timing_by c.as_slice-2.result.now (agent_at unit c.args.number).points) cycle = subst (λ clocks. IsCycle (timing_by clocks (agent_at unit c.args.number).points) cycle) (sym c.as_slice-2.ensures) drawn.drawn.is_cycle in
    c.shared_divisor-shared.ensures cycle (subst (λ ps. IsCycle (timing_by c.as_slice-2.result.now ps) cycle) (sym points) by_clocks)

pub most_of_nodes-requires-clause-agent : goal.most_of_nodes-requires-clause-agent
most_of_nodes-requires-clause-agent c = looks_agent c.args.unit.now c.args.ways.now c.requires.ways c.args.number c.requires.number

pub most_of_nodes-requires-clause-head : goal.most_of_nodes-requires-clause-head
most_of_nodes-requires-clause-head c =
    let unit = c.args.unit.now in
    let ways = c.args.ways.now in
    let number = c.args.number in
    let timed = c.one_graph.ensures.timed unit ways number c.requires.bare c.requires.ways c.requires.number in
    omega (arith, timed.head, looks_points unit ways c.requires.ways number c.requires.number)

pub most_of_nodes-requires-clause-points : goal.most_of_nodes-requires-clause-points
most_of_nodes-requires-clause-points c =
    let unit = c.args.unit.now in
    let ways = c.args.ways.now in
    let number = c.args.number in
    let timed = c.one_graph.ensures.timed unit ways number c.requires.bare c.requires.ways c.requires.number in
    let within : All (λ node. node.point < length (get_or ways.looks number [])) c.args.graph.now.nodes = subst (λ n. All (λ node. node.point < n) c.args.graph.now.nodes) (sym (looks_points unit ways c.requires.ways number c.requires.number))
    (nodes_within (agent_timing unit ways.nexts number) c.args.graph.now c.requires.graph.0 timed) in
    subst (All (λ node. node.point < length (get_or ways.looks number []))) (sym c.as_slice-4.ensures) within

pub most_of_nodes-requires-clause-shared : goal.most_of_nodes-requires-clause-shared
most_of_nodes-requires-clause-shared c =
    let (some, is) = shared_is (goal.at.most_of_nodes-requires-clause-shared c).After-as_slice-4 in
    gcd_some c.requires.graph.0.drawn.cycle c.args.clock.period c.shared_divisor-shared.result some is

pub returns : goal.returns
returns c =
    let unit = c.args.unit.now in
    let ways = c.args.ways.now in
    let number = c.args.number in
    let variable = c.args.variable in
    let clock = c.args.clock in
    let graph = c.args.graph.now in
    let drawn = c.requires.graph.0 in
    let cycle = drawn.drawn.cycle in
    let (some, is) = shared_is (goal.at.returns c).After-as_slice-4 in
    let phases : All (λ node. node.phase < cycle) c.as_slice-4.result.now = subst (All (λ node. node.phase < cycle)) (sym c.as_slice-4.ensures) (phases_within (agent_timing unit ways.nexts number) graph drawn some) in
    let most : IsMost (HasDatesAt (Listed ways) number variable clock cycle graph.nodes) c.most_of_nodes.result =
    subst (λ nodes. IsMost (HasDatesAt (Listed ways) number variable clock cycle nodes) c.most_of_nodes.result) c.as_slice-4.ensures (c.most_of_nodes.ensures cycle is phases) in
    most_alike (HasDatesAt (Listed ways) number variable clock cycle graph.nodes) (HasDatesOf unit (Listed ways) ways.nexts variable clock number) c.most_of_nodes.result
    (nodes_tell unit (Listed ways) ways.nexts number graph drawn variable clock) most
