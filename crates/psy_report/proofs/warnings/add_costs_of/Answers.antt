-- What is left of the proof of `warnings::add_costs_of`.
use Rattle.psy_report.specs.Warnings.{cost_text}
use Rattle.psy_feed.proofs.lemmas.Ranges.{line_more}
use Rattle.psy_report.proofs.warnings.add_costs_of.Goals as goal

pub points-preserved : goal.points-preserved
points-preserved c =
    line_more (cost_text c.args.agent.now c.args.costs.now) c.args.out.now.items c.points.out.items c.add_cost.new.out.items
    c.points.point c.points.invariant c.in_ok-add_cost.ensures
