-- What each loop of `graphs::find` keeps.
use Rattle.psy_demand.specs.Criterion.{edges_of}
use Rattle.psy_demand.specs.Findings.{IsFoundOf}
use Rattle.psy_demand.proofs.graphs.find.Given as goal

abbrev pub invariant-loop-processor : goal.invariant-loop-processor
invariant-loop-processor l = IsFoundOf l.homes (edges_of l.graphs) l.quantum l.top l.processor l.found
