-- How great the numbers of an agent's graph can be.
use Rattle.std.specs.Prelude.{◌*◌, ◌<◌, ◌≤◌}
use Rattle.std.specs.List.{All}
use Rattle.psy_base.specs.declared.limits.TheConstants.{BUDGET, NODES, POINTS}
use Rattle.psy_graph.specs.declared.graph.Graph.{Graph}
use Rattle.psy_graph.specs.declared.graph.Node.{Node}
use Rattle.psy_graph.specs.Steps.{STEP}

-- A node: its point is one that an agent may have, its phase lies no farther than that many nodes can, its actions are due within a step,
-- and their budget keeps the limit.
pub record IsNearNode (node : Node) : Type 0 where
  pub point : node.point < POINTS
  pub phase : node.phase ≤ STEP * NODES
  pub due : node.due ≤ STEP
  pub budget : node.budget ≤ BUDGET

-- So are all nodes of a graph, and its actions end within a step.
pub record IsNear (graph : Graph) : Type 0 where
  pub nodes : All IsNearNode graph.nodes
  pub lengths : All (λ edge. edge.len ≤ STEP) graph.edges
