-- What is left of the proof of `laws::one_size`.
use Rattle.std.proofs.Common.{ℕ, ◌<◌, ◌≤◌, List, [], length, get_or, refl, inl, inr, arith}
use Rattle.std.proofs.lemmas.Option.{slice_get-get_or}
use Rattle.psy_base.specs.declared.limits.TheConstants.{SENDS}
use Rattle.psy_tree.specs.declared.unit.Unit.{Unit as Whole}
use Rattle.psy_tree.specs.Parts.{agent_at, no_agent}
use Rattle.psy_meaning.specs.Flow.{AreAllNexts, IsMostSends}
use Rattle.psy_meaning.specs.KnownWays.{OfText}
use Rattle.psy_meaning.specs.RingSizes.{agent_timing}
use Rattle.psy_meaning.specs.Units.{IsOfText}
use Rattle.psy_flow.specs.Agents.{IsAgentOf}
use Rattle.psy_graph.specs.declared.graph.Graph.{Graph}
use Rattle.psy_graph.specs.Graphs.{AreGraphs, IsTimed, IsTimingOf}
use Rattle.psy_sizes.proofs.AllRings.{rings_or_large}
use Rattle.psy_sizes.proofs.AllSizes.{same_buffers, same_fault, sizes_apart, sizes_or_fault}
use Rattle.psy_sizes.proofs.Told.{AreTold}
use Rattle.psy_sizes.proofs.laws.one_size.Goals as goal
use Rattle.psy_sizes.proofs.laws.one_size.Goals.{After-listed}

-- Sends are counted no further than one more than a queue can hold.
few_sends : (unit : Whole) (agent from to stream n : ℕ) → IsMostSends unit.functions (agent_at unit agent) from to stream n → n ≤ SENDS
few_sends unit agent from to stream n (inl (none, is)) = omega (arith, is)
few_sends unit agent from to stream n (inr (m, greatest, is)) = omega (arith, is)

timing_is : (unit : Whole) (nexts : List (List (List ℕ))) → AreAllNexts unit nexts → (number : ℕ) → number < length unit.agents → IsTimingOf unit number (agent_timing unit nexts number)
timing_is unit nexts are number less =
    let got = slice_get-get_or unit.agents number no_agent less in
    (agent_at unit number, get_or nexts number [], got, are.each number (agent_at unit number) (get_or nexts number []) got (slice_get-get_or nexts number [] (omega (arith, less, are.count))), refl)

-- What the laws below say of the program
facts : (c : After-listed) (unit : Whole) (nexts : List (List (List ℕ))) (graphs : List Graph) → IsOfText unit → AreGraphs unit graphs → AreAllNexts unit nexts → AreTold unit (OfText unit) nexts
facts c unit nexts graphs text drawn are =
    let agent_of : (agent : ℕ) → agent < length unit.agents → IsAgentOf unit agent (agent_at unit agent) = λ agent less. (text, slice_get-get_or unit.agents agent no_agent less) in
    let by = (c.one_graph.ensures.by_nexts unit nexts graphs are).0 drawn in
    let none : Graph = record { nodes = []; edges = [] } in
    let timed : (agent : ℕ) → agent < length unit.agents → IsTimed (agent_timing unit nexts agent) = λ agent less. c.one_graph.ensures.of_text unit agent (agent_timing unit nexts agent) text (timing_is unit nexts are agent less) in
    record {
      bare = text.bare;
      counted = c.dates.ensures.count;
      one_graph = c.one_graph.ensures.graph;
      one_weight = c.greatest.ensures.one;
      some_weight = c.greatest.ensures.some;
      looks = λ agent point variable less. c.looking.ensures unit agent (agent_at unit agent) point variable (agent_of agent less);
      one_most = λ agent less from to stream n m. c.sends.ensures.one unit agent (agent_at unit agent) from to stream n m (agent_of agent less);
      some_most = λ agent less from to stream. c.sends.ensures.some unit agent (agent_at unit agent) from to stream (agent_of agent less);
      few = λ agent less from to stream n. few_sends unit agent from to stream n;
      timed = timed;
      graph_of = λ agent less. (
          let graph = get_or graphs agent none in
          let its = by.each agent graph (slice_get-get_or graphs agent none (omega (arith, less, by.count))) in
          (graph, its.0, c.one_graph.ensures.fit (agent_timing unit nexts agent) graph (timed agent less) its.0)
          );
      declared = λ stream (agent, window, spots, edges, less, sends, is, drawn_by, passes). c.listed.ensures.streams unit agent stream text less sends;
    }

pub returns-clause-same : goal.returns-clause-same
returns-clause-same c unit graphs nexts sizes others text drawn are = same_buffers unit (OfText unit) nexts (facts c unit nexts graphs text drawn are) sizes others

pub returns-clause-apart : goal.returns-clause-apart
returns-clause-apart c unit graphs nexts sizes fault text drawn are = sizes_apart unit (OfText unit) nexts (facts c unit nexts graphs text drawn are) sizes fault

pub returns-clause-cause : goal.returns-clause-cause
returns-clause-cause c unit graphs nexts fault other text drawn are = same_fault unit (OfText unit) nexts (facts c unit nexts graphs text drawn are) fault other

pub returns-clause-some : goal.returns-clause-some
returns-clause-some c unit graphs nexts text drawn are =
    let its = facts c unit nexts graphs text drawn are in
    sizes_or_fault unit (OfText unit) nexts its (rings_or_large unit (OfText unit) nexts its)
