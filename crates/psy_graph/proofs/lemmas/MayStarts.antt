-- Where actions may start.
use Rattle.std.proofs.Common.{ℕ, ◌<◌, length, arith}
use Rattle.psy_meaning.specs.Timing.{Timing, MayStart, first, later}
use Rattle.psy_graph.specs.Graphs.{IsTimed}

-- An action starts at a point of the agent.
pub may_point : (timing : Timing) → IsTimed timing → (point start : ℕ) → MayStart timing point start → point < length timing.points
may_point timing timed point start first = omega (arith, timed.head)
may_point timing timed point start (later from begun to may follows) = (timed.within from point follows).1
