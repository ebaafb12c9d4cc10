-- What is left of the proof of `images::supply_by`.
use Rattle.std.proofs.Common.{sym, subst}
use Rattle.psy_plan.specs.Supplies as supplies
use Rattle.psy_run.specs.Answer.{supplying_by}
use Rattle.psy_run.specs.Outcome.{Halts}
use Rattle.psy_run.proofs.Courses.{halts_planned}
use Rattle.psy_run.proofs.images.supply_by.Goals as goal

pub returns-in-Err-clause-err : goal.returns-in-Err-clause-err
returns-in-Err-clause-err c failed before after =
    subst (Halts (supplying_by c.args.unit.now c.args.ways.now c.args.until) failed before after) (sym c.stopped.ensures)
    (halts_planned (supplies.supplying_by c.args.unit.now c.args.ways.now c.args.until) failed before after c.in-Err.stop c.in-Err.ensures.refused)
