-- What each loop of `agents::build_by` keeps.
use Rattle.std.proofs.Common.{◌≡◌, ℕ, ◌<◌, All, length, get_or}
use Rattle.psy_window.specs.Windows.{IsEdge}
use Rattle.psy_graph.specs.declared.graph.Graph.{Graph}
use Rattle.psy_graph.specs.Graphs.{HasGraphBy}
use Rattle.psy_graph.proofs.agents.build_by.Given as goal

abbrev pub invariant-agents : goal.invariant-agents
invariant-agents l = record {
  count : length l.graphs ≡ l.number;
  each : (number : ℕ) (d : Graph) → number < l.number → HasGraphBy l.unit l.ways.nexts number (get_or l.graphs number d);
  edges : All (λ graph. All (IsEdge (length graph.nodes)) graph.edges) l.graphs;
}
