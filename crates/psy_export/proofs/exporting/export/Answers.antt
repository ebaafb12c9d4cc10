-- What is left of the proof of `exporting::export`.
use Rattle.std.proofs.Common.{◌∙◌, ap, sym, subst, Err}
use Rattle.psy_lists.proofs.lemmas.Results.{err_is}
use Rattle.psy_door.specs.Faults.{Rose}
use Rattle.psy_export.specs.Ending.{Ends}
use Rattle.psy_export.proofs.Endings.{ended_early, refused, written}
use Rattle.psy_export.proofs.exporting.export.Goals as goal

pub returns-in-Err-clause-ends : goal.returns-in-Err-clause-ends
returns-in-Err-clause-ends g c =
    refused (g.R.Shelf.files c.args.reel.now) c.args.name.now c.args.format (g.R.Shelf.faults c.args.reel.now) (g.R.Shelf.faults c.survey.new.reel)
    (g.S.Sink.faults c.args.out.now) (g.S.Sink.faults c.refuse.new.out) (g.S.Sink.held c.args.out.now) (g.S.Sink.held c.refuse.new.out) c.in-Err.fault
    c.refuse.result
    (record {
      at_line = λ line is. c.in-Err.ensures.line line (ap Err is);
      other_name = λ line is. c.in-Err.ensures.unlisted line (ap Err is);
      too_many = λ is. c.in-Err.ensures.many (ap Err is);
      other_file = λ is. c.in-Err.ensures.changed (ap Err is);
      failed = λ is. c.in-Err.ensures.unread (ap Err is);
    })
    c.refuse.ensures.said

pub returns-in-Ok-write_long-clause-ends : goal.returns-in-Ok-write_long-clause-ends
returns-in-Ok-write_long-clause-ends g c =
    written (g.R.Shelf.files c.args.reel.now) c.args.name.now c.args.format (g.R.Shelf.faults c.args.reel.now) (g.R.Shelf.faults c.write_long.new.reel)
    (g.S.Sink.faults c.args.out.now) (g.S.Sink.faults c.write_long.new.out) (g.S.Sink.held c.args.out.now) (g.S.Sink.held c.write_long.new.out)
    (rw c.in-Ok.ensures.reel.1 at c.in-Ok-write_long.ensures.text) (c.in-Ok-write_long.ensures.writable (λ is. cc))

pub returns-clause-ends : goal.returns-clause-ends
returns-clause-ends g c =
    let early =
    ended_early (g.R.Shelf.files c.args.reel.now) c.args.name.now c.args.format (g.R.Shelf.faults c.args.reel.now) (g.R.Shelf.faults c.write_long.new.reel)
    (g.S.Sink.faults c.args.out.now) (g.S.Sink.faults c.write_long.new.out) (g.S.Sink.held c.args.out.now) (g.S.Sink.held c.write_long.new.out)
    c.in-Err-write_long.fault c.in-Err-write_long.ensures.only
    (λ is.
    subst (λ before. Rose before (g.R.Shelf.faults c.write_long.new.reel)) (c.in-Ok.ensures.readable (λ e. cc))
    (c.in-Err-write_long.ensures.unread (ap Err is)))
    (λ is. sym c.in-Ok.ensures.reel.1 ∙ c.in-Err-write_long.ensures.changed (ap Err is))
    (λ is. c.in-Err-write_long.ensures.unwritten (ap Err is))
    (λ differ. c.in-Err-write_long.ensures.writable (λ is. differ (err_is _ _ is)))
    (rw c.in-Ok.ensures.reel.1 at c.in-Err-write_long.ensures.front) in
    subst (Ends (g.R.Shelf.files c.args.reel.now) c.args.name.now c.args.format (g.R.Shelf.faults c.args.reel.now) (g.R.Shelf.faults c.write_long.new.reel)
    (g.S.Sink.faults c.args.out.now) (g.S.Sink.faults c.write_long.new.out) (g.S.Sink.held c.args.out.now) (g.S.Sink.held c.write_long.new.out))
    (sym c.status_of.ensures) early
