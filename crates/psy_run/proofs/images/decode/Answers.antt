-- What is left of the proof of `images::decode`.
use Rattle.std.proofs.Common.{subst}
use Rattle.psy_image.specs.Answers.{IsBadAt, IsFault}
use Rattle.psy_run.specs.declared.refusal.Refusal.TheVariants.{Image}
use Rattle.psy_run.specs.Outcome.{halts_memory, halts_refused}
use Rattle.psy_run.proofs.images.decode.Goals as goal

pub returns-in-Err-Bad-clause-err : goal.returns-in-Err-Bad-clause-err
returns-in-Err-Bad-clause-err c failed before after =
    let place = c.in-Err-Bad.place in
    halts_refused (Image place) (subst (λ bytes. IsBadAt bytes place) c.as_slice.ensures.value (subst (IsFault c.as_slice.result.now) c.in-Err-Bad.field-0-is c.in-Err-Bad.ensures.fault))

pub returns-in-Err-Memory-clause-err : goal.returns-in-Err-Memory-clause-err
returns-in-Err-Memory-clause-err c failed before after = halts_memory
