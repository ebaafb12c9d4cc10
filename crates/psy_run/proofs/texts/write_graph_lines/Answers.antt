-- What is left of the proof of `texts::write_graph_lines`.
use Rattle.std.proofs.Common.{◌≡◌, ◌∙◌, ap, subst, ◌+◌, ◌<◌, List, ℕ, length, get_or, take, min, arith}
use Rattle.psy_door.specs.Growth.{Grew}
use Rattle.psy_graph.specs.declared.graph.Graph.{Graph}
use Rattle.psy_kernel.specs.Texts.{text_of}
use Rattle.psy_tree.specs.declared.unit.AgentDecl.{AgentDecl}
use Rattle.psy_run.specs.Cuts.{IsCutAt}
use Rattle.psy_run.specs.Texts.{agent_lines, graph_lines}
use Rattle.psy_run.proofs.CutLemmas.{cut_part, grew_part}
use Rattle.psy_run.proofs.TextLemmas.{agents_more, agents_split, agents_all}
use Rattle.psy_run.proofs.texts.write_graph_lines.Goals as goal

-- The lines of an agent, by its parts
lines_are : {agent other : AgentDecl} {graph drawn : Graph} {list costs : List ℕ} → agent ≡ other → graph ≡ drawn → list ≡ costs → agent_lines agent graph list ≡ agent_lines other drawn costs
lines_are p q r = λ i. agent_lines (p i) (q i) (r i)

pub returns-in-Err-clause-wrote : goal.returns-in-Err-clause-wrote
returns-in-Err-clause-wrote g c =
    let agents = c.args.unit.now.agents in
    let graphs = c.args.graphs.now in
    let costs = c.args.costs.now in
    let i = c.agents.number in
    let agent = c.index-agents-number.result in
    let graph = c.index-graphs-number.result in
    let list = c.index-costs-number.result in
    let within : i < length agents = omega (arith, c.agents-test.true, c.min.ensures, c.min-count.ensures, ap length c.as_slice-agents.ensures) in
    let within' : i < length graphs = omega (arith, c.agents-test.true, c.min.ensures, c.min-count.ensures) in
    let within'' : i < length costs = omega (arith, c.agents-test.true, c.min.ensures, c.min-count.ensures) in
    let lines = lines_are (c.index-agents-number.is ∙ ap (λ ms. get_or ms i agent) c.as_slice-agents.ensures) c.index-graphs-number.is (c.as_slice-costs.ensures ∙ c.index-costs-number.is) in
    let more = agents_more agents graphs costs i agent graph list within within' within'' in
    let cut = subst (λ ls. IsCutAt (g.S.Sink.held c.agents.out) (g.S.Sink.held c.write_agent.new.out) ls c.in-Err.fault.taken) lines c.in-Err.ensures.wrote in
    cut_part _ _ _ (graph_lines (take i agents) (take i graphs) (take i costs)) _ _ _ _ _ more (agents_split agents graphs costs (i + 1)) c.agents.invariant.grew cut

pub agents-preserved : goal.agents-preserved
agents-preserved g c =
    let agents = c.args.unit.now.agents in
    let graphs = c.args.graphs.now in
    let costs = c.args.costs.now in
    let i = c.agents.number in
    let agent = c.index-agents-number.result in
    let graph = c.index-graphs-number.result in
    let list = c.index-costs-number.result in
    let within : i < length agents = omega (arith, c.agents-test.true, c.min.ensures, c.min-count.ensures, ap length c.as_slice-agents.ensures) in
    let within' : i < length graphs = omega (arith, c.agents-test.true, c.min.ensures, c.min-count.ensures) in
    let within'' : i < length costs = omega (arith, c.agents-test.true, c.min.ensures, c.min-count.ensures) in
    let lines = lines_are (c.index-agents-number.is ∙ ap (λ ms. get_or ms i agent) c.as_slice-agents.ensures) c.index-graphs-number.is (c.as_slice-costs.ensures ∙ c.index-costs-number.is) in
    let more = agents_more agents graphs costs i agent graph list within within' within'' in
    let whole = subst (λ ls. Grew (g.S.Sink.held c.agents.out) (g.S.Sink.held c.write_agent.new.out) (text_of ls)) lines c.in_default.ensures.wrote in
    record {
      unfailed = c.in_default.ensures.unfailed ∙ c.agents.invariant.unfailed;
      grew = grew_part _ _ _ (graph_lines (take i agents) (take i graphs) (take i costs)) _ _ more c.agents.invariant.grew whole;
    }

pub returns-clause-wrote : goal.returns-clause-wrote
returns-clause-wrote g c =
    let agents = c.args.unit.now.agents in
    let graphs = c.args.graphs.now in
    let costs = c.args.costs.now in
    let n = c.agents.number in
    let all : n ≡ min (min (length agents) (length graphs)) (length costs) = omega (arith, c.agents-test.false, c.agents.auto.number-end, c.min.ensures, c.min-count.ensures, ap length c.as_slice-agents.ensures) in
    subst (λ ls. Grew (g.S.Sink.held c.args.out.now) (g.S.Sink.held c.agents.out) (text_of ls)) (agents_all agents graphs costs n all) c.agents.invariant.grew
