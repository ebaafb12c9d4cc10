-- What is left of the proof of `steps::read`.
use Rattle.std.proofs.Common.{◌∙◌, ap, refl, Err}
use Rattle.psy_run.specs.declared.refusal.Refusal.TheVariants.{TooLong}
use Rattle.psy_run.specs.Outcome.{halts_refused, halts_unread, halts_memory}
use Rattle.psy_run.proofs.FaultLemmas.{unread_any}
use Rattle.psy_run.proofs.steps.read.Goals as goal

pub returns-in-Err-Failed-clause-err : goal.returns-in-Err-Failed-clause-err
returns-in-Err-Failed-clause-err g c =
    let failed = c.in-Err-Failed.is ∙ ap Err c.in-Err-Failed.field-0-is in
    halts_unread c.args.file (refl, c.fetch.ensures.named failed) (c.fetch.ensures.failed failed)

pub returns-in-Err-TooLong-clause-err : goal.returns-in-Err-TooLong-clause-err
returns-in-Err-TooLong-clause-err g c = halts_refused (TooLong c.args.file) (refl, c.fetch.ensures.longer (c.in-Err-TooLong.is ∙ ap Err c.in-Err-TooLong.field-0-is))

pub returns-in-Err-Memory-clause-err : goal.returns-in-Err-Memory-clause-err
returns-in-Err-Memory-clause-err g c = halts_memory

pub returns-in-Err-TooLong-clause-long : goal.returns-in-Err-TooLong-clause-long
returns-in-Err-TooLong-clause-long g c file e = c.fetch.ensures.too_long (c.in-Err-TooLong.is ∙ ap Err c.in-Err-TooLong.field-0-is)

pub returns-in-Err-Failed-clause-unread : goal.returns-in-Err-Failed-clause-unread
returns-in-Err-Failed-clause-unread g c = unread_any _ _ c.args.file
