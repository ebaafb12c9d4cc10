-- What is left of the proof of `top::write_state`.
use Rattle.psy_run.proofs.MeaningText.{saved_leaves}
use Rattle.psy_run.proofs.top.write_state.Goals as goal

pub returns-clause-over : goal.returns-clause-over
returns-clause-over g c = saved_leaves c.args.kernel _ c.requires.can
