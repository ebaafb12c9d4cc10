-- What each loop of `variables::most_of_nodes` keeps.
use Rattle.std.proofs.Common.{◌≡◌, ℕ, ◌<◌, ◌↔◌, true, [], take, length, get_or}
use Rattle.std.specs.Int.{IsGcd}
use Rattle.std.specs.List.{All}
use Rattle.psy_base.specs.Extremes.{IsMost}
use Rattle.psy_meaning.specs.KnownWays.{Listed, Looks}
use Rattle.psy_sizes.specs.Passing.{HasDatesAt}
use Rattle.psy_sizes.proofs.variables.most_of_nodes.Given as goal

abbrev pub invariant-nodes : goal.invariant-nodes
invariant-nodes l = record {
  point : l.point < length (get_or l.ways.looks l.agent []);
  looking : (l.looking ≡ true) ↔ Looks (Listed l.ways) l.agent l.point l.variable;
  most : (cycle : ℕ) → IsGcd cycle l.clock.period l.shared → All (λ node. node.phase < cycle) l.nodes → IsMost (HasDatesAt (Listed l.ways) l.agent l.variable l.clock cycle (take l.node-index l.nodes)) l.most;
}
