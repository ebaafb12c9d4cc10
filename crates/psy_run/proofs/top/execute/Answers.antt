-- What is left of the proof of `top::execute`.
use Rattle.std.proofs.Common.{None, subst}
use Rattle.psy_door.specs.Growth.{Grew, GrewByFront}
use Rattle.psy_run.proofs.MeaningText.{begins, executed_leaves, executed_text}
use Rattle.psy_run.proofs.top.execute.Goals as goal

pub run_loop-requires : goal.run_loop-requires
run_loop-requires g c = record { began = begins c.args.kernel None c.requires.can.0 }

pub returns-in-Err-clause-written : goal.returns-in-Err-clause-written
returns-in-Err-clause-written g c =
    let text = executed_text c.args.kernel c.requires.can in
    subst (GrewByFront (g.S.Sink.held c.args.out.now) (g.S.Sink.held c.run_loop.new.out)) text c.in-Err.ensures.written

pub returns-clause-written : goal.returns-clause-written
returns-clause-written g c =
    let text = executed_text c.args.kernel c.requires.can in
    subst (Grew (g.S.Sink.held c.args.out.now) (g.S.Sink.held c.run_loop.new.out)) text c.in_default.ensures.written

pub returns-clause-over : goal.returns-clause-over
returns-clause-over g c = executed_leaves c.args.kernel c.run_loop.new.kernel c.requires.can c.in_default.ensures.over
