-- The graphs of an emptied unit's agents, and the limits that they pass, are those of the unit.
use Rattle.std.proofs.Common.{◌∙◌, subst, ℕ, List, arith}
use Rattle.psy_graph.specs.declared.fault.GraphFault.{GraphFault}
use Rattle.psy_graph.specs.declared.fault.GraphFault.TheVariants.{Nodes, Edges, Memory}
use Rattle.psy_graph.specs.declared.graph.Graph.{Graph}
use Rattle.psy_graph.specs.Graphs.{AreGraphsBy, HaveGraphsBeforeBy, IsCauseBy, IsGraphOf, IsSmall}
use Rattle.psy_image.specs.Answers.{emptied}
use Rattle.psy_meaning.specs.Graph.{PassesEdges, PassesNodes}
use Rattle.psy_meaning.specs.RingSizes.{agent_timing}
use Rattle.psy_meaning.specs.Timing.{Timing}
use Rattle.psy_tree.specs.declared.unit.Unit.{Unit as Whole}
use Rattle.psy_same.proofs.Emptied.{same_count, same_timings}

module _ (unit : Whole) (nexts : List (List (List ℕ))) where
  -- What is said of the timing of an agent
  told : (Says : Timing → Type 0) (number : ℕ) → Says (agent_timing (emptied unit) nexts number) → Says (agent_timing unit nexts number)
  told Says number = subst (λ (timings : ℕ → Timing). Says (timings number)) (same_timings unit nexts)

  pub same_graphs : (graphs : List Graph) → AreGraphsBy (emptied unit) nexts graphs → AreGraphsBy unit nexts graphs
  same_graphs graphs are = record {
    count = are.count ∙ same_count unit;
    each = λ number graph at. told (λ timing. IsGraphOf timing graph × IsSmall graph) number (are.each number graph at);
  }

  same_before : (number : ℕ) → HaveGraphsBeforeBy (emptied unit) nexts number → HaveGraphsBeforeBy unit nexts number
  same_before number have before less =
      let (graph, its) = have before less in
      (graph, told (λ timing. IsGraphOf timing graph × IsSmall graph) before its)

  pub same_causes : (fault : GraphFault) → IsCauseBy (emptied unit) nexts fault → IsCauseBy unit nexts fault
  same_causes (Nodes agent) (have, known, passes) = (same_before agent have, omega (arith, known, same_count unit), told PassesNodes agent passes)
  same_causes (Edges agent) (have, known, passes) = (same_before agent have, omega (arith, known, same_count unit), told PassesEdges agent passes)
  same_causes Memory never = never
