-- What each loop of `nodes::greatest_worst` keeps.
use Rattle.std.proofs.Common.{◌≡◌, take}
use Rattle.psy_draw.specs.Folded.{greatest_worst}
use Rattle.psy_draw.proofs.nodes.greatest_worst.Given as goal

-- The greatest cost so far
abbrev pub invariant-loop-node : goal.invariant-loop-node
invariant-loop-node l = l.most ≡ greatest_worst (take l.node-index l.nodes)
