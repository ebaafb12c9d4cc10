-- What is left of the proof of `trace_commands::trace`.
use Rattle.std.specs.Prelude.{[], option_copied}
use Rattle.psy_run.specs.declared.served.Served.TheVariants as served
use Rattle.psy_run.specs.Services.{service_of, text_of, traced_run}
use Rattle.psy_run.specs.Steps.{fitting}
use Rattle.psy_run.proofs.Courses.{halts_exit}
use Rattle.psy_run.proofs.FaultLemmas.{unfailed_exit, unfailed_last}
use Rattle.psy_run.proofs.LongFiles.{fitting_never_long, took_exit, took_last}
use Rattle.psy_run.proofs.Tracing.{as_trace, fits_trace, more_told, more_unready, more_untold}
use Rattle.psy_run.proofs.trace_commands.trace.Goals as goal

pub returns-in_err-kernel-clause-err : goal.returns-in_err-kernel-clause-err
returns-in_err-kernel-clause-err g c = halts_exit _ _ _ _ _ _ c.from_residual.ensures.1
    (more_unready as_trace fits_trace _ c.args.name.now c.args.until (option_copied c.args.inputs) (option_copied c.args.script) _ _ _ _ c.in_err-kernel.ensures.err)

pub returns-clause-ok : goal.returns-clause-ok
returns-clause-ok g c =
    more_told as_trace fits_trace _ c.args.name.now c.args.until (option_copied c.args.inputs) (option_copied c.args.script) (service_of (served.Ran c.in_ok-kernel.kernel)) c.in_ok-kernel.ensures.ok _ c.told.ensures.told c.told.ensures.fits

pub returns-clause-err : goal.returns-clause-err
returns-clause-err g c =
    more_untold as_trace fits_trace _ c.args.name.now c.args.until (option_copied c.args.inputs) (option_copied c.args.script) (service_of (served.Ran c.in_ok-kernel.kernel)) c.in_ok-kernel.ensures.ok _ _ _ _ (c.told.ensures.err _ _ _)

pub returns-in_err-kernel-clause-long : goal.returns-in_err-kernel-clause-long
returns-in_err-kernel-clause-long g c = took_exit _ _ _ c.from_residual.ensures.1 c.in_err-kernel.ensures.long

pub returns-clause-long : goal.returns-clause-long
returns-clause-long g c = let text = text_of (traced_run c.in_ok-kernel.kernel) in took_last (fitting text) _ _ _ _ _ (fitting_never_long text) (c.told.ensures.err [] 0 0)

pub returns-in_err-kernel-clause-unread : goal.returns-in_err-kernel-clause-unread
returns-in_err-kernel-clause-unread g c = unfailed_exit _ _ _ _ c.from_residual.ensures.1 c.in_err-kernel.ensures.unread

pub returns-clause-unread : goal.returns-clause-unread
returns-clause-unread g c = unfailed_last _ _ _ c.in_ok-kernel.ensures.unfailed
