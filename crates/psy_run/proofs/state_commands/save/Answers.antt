-- What is left of the proof of `state_commands::save`.
use Rattle.std.specs.Prelude.{[], option_copied}
use Rattle.psy_run.specs.declared.served.Served.TheVariants as served
use Rattle.psy_run.specs.Answer.{leaving_of}
use Rattle.psy_run.specs.Services.{service_of}
use Rattle.psy_run.proofs.Courses.{halts_exit}
use Rattle.psy_run.proofs.FaultLemmas.{unfailed_exit}
use Rattle.psy_run.proofs.LongFiles.{leaving_never_long, took_exit, took_last}
use Rattle.psy_run.proofs.Tracing.{as_state, leaves_state, more_told, more_unready, more_untold}
use Rattle.psy_run.proofs.state_commands.save.Goals as goal

pub returns-in_err-kernel-clause-err : goal.returns-in_err-kernel-clause-err
returns-in_err-kernel-clause-err g c = halts_exit _ _ _ _ _ _ c.from_residual.ensures.1
    (more_unready as_state leaves_state _ c.args.name.now c.args.date (option_copied c.args.inputs) (option_copied c.args.script) _ _ _ _ c.in_err-kernel.ensures.err)

pub returns-clause-ok : goal.returns-clause-ok
returns-clause-ok g c =
    more_told as_state leaves_state _ c.args.name.now c.args.date (option_copied c.args.inputs) (option_copied c.args.script) (service_of (served.Ran c.in_ok-kernel.kernel)) c.in_ok-kernel.ensures.ok _ c.saved.ensures.saved c.saved.ensures.given

pub returns-clause-err : goal.returns-clause-err
returns-clause-err g c =
    more_untold as_state leaves_state _ c.args.name.now c.args.date (option_copied c.args.inputs) (option_copied c.args.script) (service_of (served.Ran c.in_ok-kernel.kernel)) c.in_ok-kernel.ensures.ok _ _ _ _ (c.saved.ensures.err _ _ _)

pub returns-in_err-kernel-clause-long : goal.returns-in_err-kernel-clause-long
returns-in_err-kernel-clause-long g c = took_exit _ _ _ c.from_residual.ensures.1 c.in_err-kernel.ensures.long

pub returns-clause-long : goal.returns-clause-long
returns-clause-long g c = let kernel = c.in_ok-kernel.kernel in took_last (leaving_of kernel) _ _ _ _ _ (leaving_never_long kernel) (c.saved.ensures.err [] 0 0)

pub returns-in_err-kernel-clause-unread : goal.returns-in_err-kernel-clause-unread
returns-in_err-kernel-clause-unread g c = unfailed_exit _ _ _ _ c.from_residual.ensures.1 c.in_err-kernel.ensures.unread
