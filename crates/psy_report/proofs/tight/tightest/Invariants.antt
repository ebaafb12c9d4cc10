-- What each loop of `tight::tightest` keeps.
use Rattle.psy_report.specs.Tightness.{IsTightest, demand_on}
use Rattle.psy_report.proofs.tight.tightest.Given as goal

abbrev pub invariant-lengths : goal.invariant-lengths
invariant-lengths l = IsTightest l.unit.quantum (demand_on l.unit l.lists l.processor) l.before l.least
