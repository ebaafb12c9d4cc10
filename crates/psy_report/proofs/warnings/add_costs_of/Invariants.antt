-- What each loop of `warnings::add_costs_of` keeps.
use Rattle.std.proofs.Common.{◌≡◌, ◌++◌}
use Rattle.psy_report.specs.Warnings.{cost_text}
use Rattle.psy_feed.proofs.lemmas.Ranges.{lines_below}
use Rattle.psy_report.proofs.warnings.add_costs_of.Given as goal

abbrev pub invariant-points : goal.invariant-points
invariant-points l = l.out.items ≡ l.fn.out.items ++ lines_below (cost_text l.agent l.costs) l.point
