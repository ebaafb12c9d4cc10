-- What is left of the proof of `images::verify`.
use Rattle.std.proofs.Common.{◌∙◌, ap, Err}
use Rattle.psy_run.specs.declared.refusal.Refusal.TheVariants.{Code}
use Rattle.psy_run.specs.Outcome.{halts_memory, halts_refused}
use Rattle.psy_run.proofs.images.verify.Goals as goal

pub returns-in-Err-Fault-clause-err : goal.returns-in-Err-Fault-clause-err
returns-in-Err-Fault-clause-err c failed before after =
    let number = c.in-Err-Fault.number in
    let place = c.in-Err-Fault.place in
    halts_refused (Code number place) (c.verify.ensures.fault number place (c.in-Err-Fault.is ∙ ap Err c.in-Err-Fault.field-0-is))

pub returns-in-Err-Memory-clause-err : goal.returns-in-Err-Memory-clause-err
returns-in-Err-Memory-clause-err c failed before after = halts_memory
