-- What is left of the proof of `commands::write_made`.
use Rattle.psy_run.specs.declared.refusal.Stop.TheVariants.{Memory}
use Rattle.psy_run.specs.Outcome.{halts_memory}
use Rattle.psy_run.proofs.Courses.{halts_exit}
use Rattle.psy_run.proofs.commands.write_made.Goals as goal

pub returns-in_err-make-clause-err : goal.returns-in_err-make-clause-err
returns-in_err-make-clause-err c failed before after = halts_exit _ _ _ _ Memory _ c.from_residual.ensures.1 halts_memory
