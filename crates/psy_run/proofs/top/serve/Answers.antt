-- What is left of the proof of `top::serve`.
use Rattle.std.proofs.Common.{sym, subst}
use Rattle.psy_log.specs.Forms.{legal_line}
use Rattle.psy_log.specs.Writing.{Written}
use Rattle.psy_run.specs.Services.{service_of, text_of}
use Rattle.psy_run.proofs.CutLemmas.{wrote_one}
use Rattle.psy_run.proofs.MeaningText.{is_bounded}
use Rattle.psy_run.proofs.top.serve.Goals as goal

pub returns-in-Ran-clause-bounded : goal.returns-in-Ran-clause-bounded
returns-in-Ran-clause-bounded g c = is_bounded c.bounds.ensures c.bounds_by.ensures c.bounds_behind.ensures c.args.served c.requires.can

pub returns-in-Tried-clause-bounded : goal.returns-in-Tried-clause-bounded
returns-in-Tried-clause-bounded g c = is_bounded c.bounds.ensures c.bounds_by.ensures c.bounds_behind.ensures c.args.served c.requires.can

pub returns-in-Executed-clause-bounded : goal.returns-in-Executed-clause-bounded
returns-in-Executed-clause-bounded g c = is_bounded c.bounds.ensures c.bounds_by.ensures c.bounds_behind.ensures c.args.served c.requires.can

pub returns-in-Traced-clause-bounded : goal.returns-in-Traced-clause-bounded
returns-in-Traced-clause-bounded g c = is_bounded c.bounds.ensures c.bounds_by.ensures c.bounds_behind.ensures c.args.served c.requires.can

pub returns-in-Saved-clause-bounded : goal.returns-in-Saved-clause-bounded
returns-in-Saved-clause-bounded g c = is_bounded c.bounds.ensures c.bounds_by.ensures c.bounds_behind.ensures c.args.served c.requires.can

pub returns-in-Resumed-clause-bounded : goal.returns-in-Resumed-clause-bounded
returns-in-Resumed-clause-bounded g c = is_bounded c.bounds.ensures c.bounds_by.ensures c.bounds_behind.ensures c.args.served c.requires.can

pub returns-in-Audited-clause-written : goal.returns-in-Audited-clause-written
returns-in-Audited-clause-written g c =
    let old = g.S.Sink.held c.args.out.now in
    let now = g.S.Sink.held c.write_note.new.out in
    subst (λ done. Written old now c.write_note.result (text_of (service_of done))) (sym c.in-Audited.is)
    (wrote_one old now c.write_note.result (legal_line c.in-Audited.acts c.in-Audited.looks) c.write_note.ensures.wrote)
