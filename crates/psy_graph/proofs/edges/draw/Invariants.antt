-- What each loop of `edges::draw` keeps.
use Rattle.std.proofs.Common.{◌≡◌, ◌≤◌, map, take, length}
use Rattle.psy_base.specs.declared.limits.TheConstants.{EDGES}
use Rattle.psy_graph.specs.Steps.{timing_by}
use Rattle.psy_graph.specs.Drawn.{node_of, first_edges}
use Rattle.psy_graph.proofs.edges.draw.Given as goal

abbrev pub invariant-places : goal.invariant-places
invariant-places l = record {
  nodes : l.graph.nodes ≡ map (node_of (timing_by l.times)) (take l.from l.places);
  edges : l.graph.edges ≡ first_edges (timing_by l.times) l.places l.from;
  few : length l.graph.edges ≤ EDGES;
}
