-- What is left of the proof of `sums::sum_up`.
use Rattle.std.proofs.Common.{◌≡◌, ◌∙◌, ◌<◌, ◌==◌, [], length, get_or, slice_index, subst, arith}
use Rattle.std.proofs.lemmas.List.{get_or_default}
use Rattle.psy_base.specs.Paths.{FitsDueLast, IsGreatestWeight}
use Rattle.psy_demand.specs.Criterion.{edges_of}
use Rattle.psy_demand.specs.Sums.{own_edges}
use Rattle.psy_demand.proofs.OneMore.{edges_there, taken_in}
use Rattle.psy_demand.proofs.sums.sum_up.Goals as goal

pub loop-agent-preserved : goal.loop-agent-preserved
loop-agent-preserved c =
    let homes = c.args.homes.now in
    let processor = c.args.processor in
    let graphs = c.args.graphs.now in
    let agent = c.loop-agent.agent in
    let graph = c.index-graphs-agent.result in
    let before = c.loop-agent.invariant in
    let more = c.in_ok-take_in.ensures in
    let here : agent < length graphs = omega (arith, c.loop-agent-test.true) in
    let same : graph.edges ≡ get_or (edges_of graphs) agent [] = edges_there graphs agent graph here c.index-graphs-agent.is in
    record {
      count = more.count ∙ before.count;
      demand = λ within below. (
          let grown = more.grown within below in
          let its = subst (λ es. IsGreatestWeight (own_edges (get_or homes agent 0 == processor) es) (FitsDueLast within) grown.0) same grown.1 in
          taken_in homes processor (edges_of graphs) agent within (slice_index c.loop-agent.sums within) (slice_index c.take_in.new.sums within) grown.0 (before.demand within below) its grown.3);
      small = λ k d less. (
          let within : k < length c.loop-agent.sums = omega (arith, less, more.count) in
          let grown = more.grown k (omega (arith, within, before.count)) in
          omega (arith, grown.2, grown.3, before.small k d within, get_or_default c.loop-agent.sums k d 0 within, get_or_default c.take_in.new.sums k d 0 less));
    }
