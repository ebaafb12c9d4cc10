-- What is left of the proof of `trace_commands::judge_by`.
use Rattle.std.proofs.Common.{◌≡◌, ◌∙◌, ap, subst, Err, Some}
use Rattle.psy_audit.specs.Answers.{fault_at}
use Rattle.psy_audit.specs.Faults.{first_fault}
use Rattle.psy_audit.specs.Judging.{judged_of}
use Rattle.psy_audit.specs.Texts.{lines_in}
use Rattle.psy_run.specs.declared.refusal.Refusal.TheVariants.{Trace}
use Rattle.psy_run.specs.Outcome.{halts_memory, halts_refused}
use Rattle.psy_run.proofs.trace_commands.judge_by.Goals as goal

pub returns-in-Err-Fault-clause-err : goal.returns-in-Err-Fault-clause-err
returns-in-Err-Fault-clause-err c failed before after =
    let plan = c.args.plan.now in
    let number = c.in-Err-Fault.number in
    let line = c.in-Err-Fault.line in
    let found = c.audit.ensures.fault number line (c.in-Err-Fault.is ∙ ap Err c.in-Err-Fault.field-0-is) in
    halts_refused (Trace number line) (subst (λ text. first_fault (judged_of plan c.args.script.now) (lines_in plan.unit plan.until text) ≡ Some (fault_at number line)) c.as_slice.ensures.value found)

pub returns-in-Err-Memory-clause-err : goal.returns-in-Err-Memory-clause-err
returns-in-Err-Memory-clause-err c failed before after = halts_memory
