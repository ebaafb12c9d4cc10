-- What each loop of `tops::longest` keeps.
use Rattle.std.proofs.Common.{take}
use Rattle.psy_base.specs.Extremes.{IsGreatest}
use Rattle.psy_sizes.specs.Queues.{HasLength}
use Rattle.psy_sizes.proofs.tops.longest.Given as goal

abbrev pub invariant-edges : goal.invariant-edges
invariant-edges l = IsGreatest (HasLength l.first (take l.edge-index l.edges)) l.longest
