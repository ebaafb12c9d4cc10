-- What each loop of `variables::most_of_all` keeps.
use Rattle.psy_base.specs.Extremes.{IsMost}
use Rattle.psy_meaning.specs.KnownWays.{Listed}
use Rattle.psy_sizes.specs.Passing.{HasDatesBefore}
use Rattle.psy_sizes.proofs.variables.most_of_all.Given as goal

abbrev pub invariant-agents : goal.invariant-agents
invariant-agents l = IsMost (HasDatesBefore l.unit (Listed l.ways) l.ways.nexts l.variable l.clock l.number) l.most
