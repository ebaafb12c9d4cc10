-- What each loop of `lists::weights_of_all` keeps.
use Rattle.std.proofs.Common.{take}
use Rattle.psy_demand.specs.Criterion.{AreEach, AreWeights}
use Rattle.psy_demand.proofs.lists.weights_of_all.Given as goal

abbrev pub invariant-graphs : goal.invariant-graphs
invariant-graphs l = AreEach (AreWeights l.top) (take l.graph-index l.graphs) l.lists
