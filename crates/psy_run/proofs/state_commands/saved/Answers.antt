-- What is left of the proof of `state_commands::saved`.
use Rattle.psy_run.proofs.Tracing.{can_save, saved_now}
use Rattle.psy_run.proofs.state_commands.saved.Goals as goal

pub returns-in-Ok-clause-saved : goal.returns-in-Ok-clause-saved
returns-in-Ok-clause-saved c = saved_now c.args.kernel _ c.in-Ok.ensures.over

pub returns-in-Ok-clause-can : goal.returns-in-Ok-clause-can
returns-in-Ok-clause-can c = can_save c.args.kernel _ _ c.requires.can c.in-Ok.ensures.over c.in-Ok.ensures.left
