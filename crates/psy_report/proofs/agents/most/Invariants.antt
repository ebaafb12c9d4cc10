-- What each loop of `agents::most` keeps.
use Rattle.std.proofs.Common.{◌≡◌, drop, max}
use Rattle.psy_base.specs.Extremes.{most_of}
use Rattle.psy_report.proofs.agents.most.Given as goal

abbrev pub invariant-costs : goal.invariant-costs
invariant-costs l = max l.most (most_of (drop l.cost-index l.costs)) ≡ most_of l.costs
