-- What each loop of `nodes::nodes_at` keeps.
use Rattle.std.proofs.Common.{◌≡◌, take}
use Rattle.std.specs.List.{flat_map}
use Rattle.psy_draw.specs.Folded.{node_at}
use Rattle.psy_draw.proofs.nodes.nodes_at.Given as goal

-- What was found so far
abbrev pub invariant-loop-node : goal.invariant-loop-node
invariant-loop-node l = l.found.items ≡ flat_map (node_at l.point) (take l.node-index l.nodes)
