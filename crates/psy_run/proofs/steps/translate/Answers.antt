-- What is left of the proof of `steps::translate`.
use Rattle.std.proofs.Common.{sym, subst}
use Rattle.psy_plan.specs.Courses.{Stops}
use Rattle.psy_plan.specs.Programs.{IsProgram, IsRefused, translating as translated}
use Rattle.psy_run.specs.Answer.{translating}
use Rattle.psy_run.specs.Outcome.{Halts}
use Rattle.psy_run.proofs.Courses.{halts_planned}
use Rattle.psy_run.proofs.steps.translate.Goals as goal

pub returns-in-Ok-clause-ok : goal.returns-in-Ok-clause-ok
returns-in-Ok-clause-ok c = subst (λ bytes. IsProgram bytes c.in-Ok.unit) c.as_slice.ensures.value c.in-Ok.ensures.unit

pub returns-in-Err-clause-err : goal.returns-in-Err-clause-err
returns-in-Err-clause-err c failed before after =
    let bytes = c.args.bytes.now.items in
    let refused = subst (λ text. Stops (IsRefused text) c.in-Err.stop) c.as_slice.ensures.value c.in-Err.ensures.refused in
    subst (Halts (translating bytes) failed before after) (sym c.stopped.ensures) (halts_planned (translated bytes) failed before after c.in-Err.stop refused)
