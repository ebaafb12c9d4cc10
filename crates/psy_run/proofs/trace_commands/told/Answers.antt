-- What is left of the proof of `trace_commands::told`.
use Rattle.psy_run.proofs.Tracing.{can_tell, told_now}
use Rattle.psy_run.proofs.trace_commands.told.Goals as goal

pub returns-in-Ok-clause-told : goal.returns-in-Ok-clause-told
returns-in-Ok-clause-told c = told_now c.args.kernel _ c.in-Ok.ensures.over

pub returns-in-Ok-clause-can : goal.returns-in-Ok-clause-can
returns-in-Ok-clause-can c = can_tell c.args.kernel _ _ c.requires.can c.in-Ok.ensures.over c.in-Ok.ensures.told
