-- What each loop of `edges::add_edges` keeps.
use Rattle.std.proofs.Common.{◌≡◌, ◌++◌, map, take}
use Rattle.psy_graph.specs.Steps.{timing_by}
use Rattle.psy_graph.specs.Drawn.{edge_to}
use Rattle.psy_graph.proofs.edges.add_edges.Given as goal

abbrev pub invariant-points : goal.invariant-points
invariant-points l = l.edges ≡ l.fn.edges ++ map (edge_to (timing_by l.times) l.places l.from) (take l.k l.points)
