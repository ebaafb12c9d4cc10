-- Graphs by the points that follow each point are those of the statements, where these points are.
use Rattle.std.proofs.Common.{ℕ, ◌<◌, List, [], length, get_or, refl, subst, arith}
use Rattle.std.proofs.lemmas.Option.{slice_get-get_or, slice_get_within}
use Rattle.psy_tree.specs.declared.unit.Unit.{Unit as Whole}
use Rattle.psy_tree.specs.Parts.{agent_at, no_agent}
use Rattle.psy_meaning.specs.Flow.{AreAllNexts}
use Rattle.psy_meaning.specs.RingSizes.{agent_timing}
use Rattle.psy_graph.specs.declared.fault.GraphFault.{GraphFault}
use Rattle.psy_graph.specs.declared.fault.GraphFault.TheVariants.{Nodes, Edges, Memory}
use Rattle.psy_graph.specs.declared.graph.Graph.{Graph}
use Rattle.psy_graph.specs.Graphs.{AreGraphs, AreGraphsBy, HasGraph, HasGraphBy, HaveGraphsBefore, HaveGraphsBeforeBy, IsCause, IsCauseBy, IsGraphOf, IsTimingOf}
use Rattle.psy_graph.proofs.lemmas.Unique.{same_timing}

module _ (unit : Whole) (nexts : List (List (List ℕ))) (are : AreAllNexts unit nexts) where
  -- The actions of an agent of the unit begin and end so.
  timing_is : (number : ℕ) → number < length unit.agents → IsTimingOf unit number (agent_timing unit nexts number)
  timing_is number less =
      let got = slice_get-get_or unit.agents number no_agent less in
      let list = slice_get-get_or nexts number [] (omega (arith, less, are.count)) in
      (agent_at unit number, get_or nexts number [], got, are.each number (agent_at unit number) (get_or nexts number []) got list, refl)

  has_graph : (number : ℕ) (graph : Graph) → number < length unit.agents → HasGraphBy unit nexts number graph → HasGraph unit number graph
  has_graph number graph less (drawn, small) = (agent_timing unit nexts number, timing_is number less, drawn, small)

  has_graph_by : (number : ℕ) (graph : Graph) → number < length unit.agents → HasGraph unit number graph → HasGraphBy unit nexts number graph
  has_graph_by number graph less (timing, told, drawn, small) =
      (subst (λ t. IsGraphOf t graph) (same_timing unit number timing (agent_timing unit nexts number) told (timing_is number less)) drawn, small)

  pub of_text : (graphs : List Graph) → AreGraphsBy unit nexts graphs → AreGraphs unit graphs
  of_text graphs by = record {
    count = by.count;
    each = λ number graph at. (let inside = slice_get_within graphs number graph at in has_graph number graph (omega (arith, inside, by.count)) (by.each number graph at));
  }

  pub by_nexts : (graphs : List Graph) → AreGraphs unit graphs → AreGraphsBy unit nexts graphs
  by_nexts graphs of = record {
    count = of.count;
    each = λ number graph at. (let inside = slice_get_within graphs number graph at in has_graph_by number graph (omega (arith, inside, of.count)) (of.each number graph at));
  }

  before_of : (number : ℕ) → number < length unit.agents → HaveGraphsBeforeBy unit nexts number → HaveGraphsBefore unit number
  before_of number known before k less = let (graph, has) = before k less in (graph, has_graph k graph (omega (arith, less, known)) has)

  pub cause_of : (fault : GraphFault) → IsCauseBy unit nexts fault → IsCause unit fault
  cause_of (Nodes agent) (before, less, passes) = (before_of agent less before, agent_timing unit nexts agent, timing_is agent less, passes)
  cause_of (Edges agent) (before, less, passes) = (before_of agent less before, agent_timing unit nexts agent, timing_is agent less, passes)
  cause_of Memory none = none
