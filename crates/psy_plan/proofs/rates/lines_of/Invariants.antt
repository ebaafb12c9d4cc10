-- What each loop of `rates::lines_of` keeps.
use Rattle.std.proofs.Common.{take}
use Rattle.psy_demand.specs.Criterion.{AreEach}
use Rattle.psy_plan.specs.Tables.{IsLine}
use Rattle.psy_plan.proofs.rates.lines_of.Given as goal

abbrev pub invariant-graphs : goal.invariant-graphs
invariant-graphs l = AreEach IsLine (take l.graph-index l.graphs) l.lines
