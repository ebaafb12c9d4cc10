-- What is left of the proof of `supply::graphs`.
use Rattle.std.proofs.Common.{sym, subst}
use Rattle.psy_plan.specs.Steps as plan
use Rattle.psy_run.specs.Outcome.{Halts}
use Rattle.psy_run.specs.Steps.{graphing}
use Rattle.psy_run.proofs.Courses.{halts_planned}
use Rattle.psy_run.proofs.supply.graphs.Goals as goal

pub returns-in-Err-clause-err : goal.returns-in-Err-clause-err
returns-in-Err-clause-err c failed before after =
    subst (Halts (graphing c.args.unit.now) failed before after) (sym c.stopped.ensures) (halts_planned (plan.graphing c.args.unit.now) failed before after c.in-Err.stop c.in-Err.ensures.refused)
