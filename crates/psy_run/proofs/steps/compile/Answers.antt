-- What is left of the proof of `steps::compile`.
use Rattle.std.proofs.Common.{[]}
use Rattle.psy_run.specs.declared.refusal.File.TheVariants.{Program}
use Rattle.psy_run.specs.Steps.{reading}
use Rattle.psy_run.proofs.Courses.{halts_exit, halts_first, halts_last, gives_last}
use Rattle.psy_run.proofs.LongFiles.{took_exit, took_last, translating_never_long}
use Rattle.psy_run.proofs.FaultLemmas.{unfailed_exit, unfailed_last}
use Rattle.psy_run.proofs.steps.compile.Goals as goal

pub returns-in_err-bytes-clause-err : goal.returns-in_err-bytes-clause-err
returns-in_err-bytes-clause-err g c = halts_exit _ _ _ _ _ _ c.from_residual.ensures.1 (halts_first (reading _ Program _) _ _ _ _ _ c.in_err-bytes.ensures.err)

pub returns-clause-ok : goal.returns-clause-ok
returns-clause-ok g c = gives_last (reading _ Program _) _ _ (λ unit. unit) _ c.in_ok-bytes.ensures.ok c.translate.ensures.ok

pub returns-clause-err : goal.returns-clause-err
returns-clause-err g c = halts_last (reading _ Program _) _ _ _ _ _ _ c.in_ok-bytes.ensures.ok (c.translate.ensures.err _ _ _)

pub returns-in_err-bytes-clause-long : goal.returns-in_err-bytes-clause-long
returns-in_err-bytes-clause-long g c = took_exit _ _ _ c.from_residual.ensures.1 c.in_err-bytes.ensures.long

pub returns-clause-long : goal.returns-clause-long
returns-clause-long g c = took_last _ _ _ _ _ _ (translating_never_long c.in_ok-bytes.bytes.items) (c.translate.ensures.err [] 0 0)

pub returns-in_err-bytes-clause-unread : goal.returns-in_err-bytes-clause-unread
returns-in_err-bytes-clause-unread g c = unfailed_exit _ _ _ _ c.from_residual.ensures.1 c.in_err-bytes.ensures.unread

pub returns-clause-unread : goal.returns-clause-unread
returns-clause-unread g c = unfailed_last _ _ _ c.in_ok-bytes.ensures.unfailed
