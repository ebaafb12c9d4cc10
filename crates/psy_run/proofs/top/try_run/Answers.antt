-- What is left of the proof of `top::try_run`.
use Rattle.std.proofs.Common.{subst}
use Rattle.psy_door.specs.Growth.{Grew, GrewByFront}
use Rattle.psy_run.proofs.MeaningText.{are_alike, tried_leaves, tried_text}
use Rattle.psy_run.proofs.top.try_run.Goals as goal

pub returns-in-Err-clause-written : goal.returns-in-Err-clause-written
returns-in-Err-clause-written g c =
    let law = c.alike.ensures in
    let text = tried_text (are_alike law.lines law.counts law.slacks law.held law.reaches) c.args.kernel c.requires.can in
    subst (GrewByFront (g.S.Sink.held c.args.out.now) (g.S.Sink.held c.trial_loop.new.out)) text c.in-Err.ensures.written

pub returns-clause-written : goal.returns-clause-written
returns-clause-written g c =
    let law = c.alike.ensures in
    let text = tried_text (are_alike law.lines law.counts law.slacks law.held law.reaches) c.args.kernel c.requires.can in
    subst (Grew (g.S.Sink.held c.args.out.now) (g.S.Sink.held c.trial_loop.new.out)) text c.in_default.ensures.written

pub returns-clause-over : goal.returns-clause-over
returns-clause-over g c = tried_leaves c.args.kernel c.trial_loop.new.kernel c.requires.can c.in_default.ensures.over
