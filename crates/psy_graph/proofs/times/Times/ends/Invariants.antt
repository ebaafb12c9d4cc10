-- What each loop of `times::Times::ends` keeps.
use Rattle.std.proofs.Common.{◌≡◌, map, take}
use Rattle.psy_meaning.specs.Timing.{following, end_date}
use Rattle.psy_graph.specs.Steps.{timing_by}
use Rattle.psy_graph.proofs.times.Times.ends.Given as goal

abbrev pub invariant-next : goal.invariant-next
invariant-next l = l.ends ≡ map (end_date (timing_by l.self) l.start) (take l.to-index (following (timing_by l.self) l.point))
