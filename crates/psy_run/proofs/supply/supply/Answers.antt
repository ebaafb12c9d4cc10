-- What is left of the proof of `supply::supply`.
use Rattle.std.proofs.Common.{sym, subst}
use Rattle.psy_plan.specs.Supplies as supplies
use Rattle.psy_run.specs.declared.refusal.Stop.TheVariants.{Memory}
use Rattle.psy_run.specs.Answer.{supplying}
use Rattle.psy_run.specs.Outcome.{Halts, halts_memory}
use Rattle.psy_run.proofs.Courses.{halts_exit, halts_planned}
use Rattle.psy_run.proofs.supply.supply.Goals as goal

pub returns-in_err-coded-clause-err : goal.returns-in_err-coded-clause-err
returns-in_err-coded-clause-err c failed before after = halts_exit (supplying c.args.unit.now c.args.until) failed before after Memory c.from_residual.result c.from_residual.ensures.1 halts_memory

pub returns-in-Ok-clause-ok : goal.returns-in-Ok-clause-ok
returns-in-Ok-clause-ok c = c.in-Ok.ensures.ok

pub returns-in-Err-clause-err : goal.returns-in-Err-clause-err
returns-in-Err-clause-err c failed before after =
    subst (Halts (supplying c.args.unit.now c.args.until) failed before after) (sym c.stopped.ensures)
    (halts_planned (supplies.supplying c.args.unit.now c.args.until) failed before after c.in-Err.stop c.in-Err.ensures.refused)
