-- What is left of the proof of `top::write_trace`.
use Rattle.psy_run.proofs.MeaningText.{traced_leaves}
use Rattle.psy_run.proofs.top.write_trace.Goals as goal

pub returns-clause-over : goal.returns-clause-over
returns-clause-over g c = traced_leaves c.args.kernel _ c.requires.can
