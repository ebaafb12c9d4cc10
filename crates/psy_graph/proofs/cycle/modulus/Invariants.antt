-- What each loop of `cycle::modulus` keeps.
use Rattle.std.proofs.Common.{◌-◌, ◌≤◌, map, take, drop}
use Rattle.psy_meaning.specs.Graph.{IsLeastCommonMultiple}
use Rattle.psy_meaning.specs.Timing.{clock_at}
use Rattle.psy_graph.specs.declared.cycle.TheConstants.{FAR}
use Rattle.psy_graph.specs.Steps.{timing_by}
use Rattle.psy_graph.proofs.cycle.modulus.Given as goal

abbrev pub invariant-points : goal.invariant-points
invariant-points l = record {
  multiple : IsLeastCommonMultiple (map (λ p. (clock_at (timing_by l.times) p.clock).period) (take (l.point - 1) (drop 1 l.times.points.now))) l.multiple;
  some : 1 ≤ l.multiple;
  near : l.multiple ≤ FAR;
}
