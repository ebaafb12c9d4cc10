-- What is left of the proof of `passes::write_told`.
use Rattle.std.proofs.Common.{◌∙◌, sym, ap, subst, Err}
use Rattle.psy_passes.proofs.lemmas.ToldApart.{differ_by, same_by}
use Rattle.psy_lists.proofs.lemmas.Results.{err_is}
use Rattle.psy_passes.specs.declared.scan_fault.ScanFault.TheVariants as scan
use Rattle.psy_passes.specs.NameChecks.{RefusesOther, TellsListed}
use Rattle.psy_passes.specs.Outcomes.{IsOfTelling, since}
use Rattle.psy_passes.proofs.Sinces.{halted_since, telling_only, unread_is, unwritten_is}
use Rattle.psy_passes.proofs.Surveyed.{changed_end, told_all, told_end, told_halt, told_none}
use Rattle.psy_passes.proofs.passes.write_told.Goals as goal

pub returns-in-Err-clause-begun : goal.returns-in-Err-clause-begun
returns-in-Err-clause-begun g c = told_none g.T.Tell.tells (g.R.Shelf.files c.args.reel.now) c.args.name.now c.args.teller (g.S.Sink.held c.args.out.now)

pub returns-in-Err-scan-clause-begun : goal.returns-in-Err-scan-clause-begun
returns-in-Err-scan-clause-begun g c =
    told_halt g.T.Tell.tells g.T.Tell.refuses (record { listed = c.in-Ok.listed; inner = c.args.teller }) (g.S.Sink.held c.args.out.now) (g.S.Sink.held c.scan.new.out)
    (g.R.Shelf.files c.args.reel.now) c.args.name.now c.in-Err-scan.fault c.in-Err-scan.ensures.halts

pub returns-in-Err-scan-clause-changed : goal.returns-in-Err-scan-clause-changed
returns-in-Err-scan-clause-changed g c = λ is none before run log was.
    halted_since g.T.Tell.tells g.T.Tell.refuses (record { listed = c.in-Ok.listed; inner = c.args.teller }) (g.S.Sink.held c.args.out.now) (g.S.Sink.held c.scan.new.out)
    (g.R.Shelf.files c.args.reel.now) c.args.name.now c.args.tail.now c.one_reading.ensures.not_both c.one_front.ensures c.found_unlisted.ensures c.in-Err-scan.fault
    c.in-Ok.ensures c.in-Err-scan.ensures.halts (sym c.since.ensures ∙ err_is _ _ is) none before run log was

pub returns-in-Err-scan-clause-only : goal.returns-in-Err-scan-clause-only
returns-in-Err-scan-clause-only g c = subst IsOfTelling (sym c.since.ensures) (telling_only c.in-Err-scan.fault)

pub returns-in-Err-scan-clause-unread : goal.returns-in-Err-scan-clause-unread
returns-in-Err-scan-clause-unread g c = λ is. c.in-Err-scan.ensures.unread (ap Err (unread_is c.in-Err-scan.fault (sym c.since.ensures ∙ err_is _ _ is)))

pub returns-in-Err-scan-clause-unwritten : goal.returns-in-Err-scan-clause-unwritten
returns-in-Err-scan-clause-unwritten g c = λ is. c.in-Err-scan.ensures.unwritten (ap Err (unwritten_is c.in-Err-scan.fault (sym c.since.ensures ∙ err_is _ _ is)))

pub returns-in-Err-scan-clause-readable : goal.returns-in-Err-scan-clause-readable
returns-in-Err-scan-clause-readable g c = λ differ.
    c.in-Err-scan.ensures.readable (λ is. differ (ap Err (c.since.ensures ∙ ap since (err_is c.in-Err-scan.fault scan.Unread is))))

pub returns-in-Err-scan-clause-writable : goal.returns-in-Err-scan-clause-writable
returns-in-Err-scan-clause-writable g c = λ differ.
    c.in-Err-scan.ensures.writable (λ is. differ (ap Err (c.since.ensures ∙ ap since (err_is c.in-Err-scan.fault scan.Unwritten is))))

pub returns-then-ne-clause-begun : goal.returns-then-ne-clause-begun
returns-then-ne-clause-begun g c =
    told_end g.T.Tell.tells g.T.Tell.refuses (record { listed = c.in-Ok.listed; inner = c.args.teller }) (g.S.Sink.held c.args.out.now) (g.S.Sink.held c.scan.new.out)
    (g.R.Shelf.files c.args.reel.now) c.args.name.now c.scan.new.tell c.in-Ok-scan.now.items c.in-Ok-scan.ensures.done

pub returns-then-ne-clause-changed : goal.returns-then-ne-clause-changed
returns-then-ne-clause-changed g c = λ is none before run log was.
    changed_end (TellsListed g.T.Tell.tells) (RefusesOther g.T.Tell.refuses) (record { listed = c.in-Ok.listed; inner = c.args.teller }) (g.S.Sink.held c.args.out.now)
    (g.S.Sink.held c.scan.new.out) (g.R.Shelf.files c.args.reel.now) c.args.name.now c.args.tail.now c.one_front.ensures c.scan.new.tell c.in-Ok-scan.now.items
    c.in-Ok-scan.ensures.done (λ same. differ_by c.as_slice.result.now c.args.tail.now c.if-ne.ensures (c.as_slice.ensures.value ∙ same)) before run was

pub returns-clause-done : goal.returns-clause-done
returns-clause-done g c =
    told_all g.T.Tell.tells g.T.Tell.refuses (record { listed = c.in-Ok.listed; inner = c.args.teller }) (g.S.Sink.held c.args.out.now) (g.S.Sink.held c.scan.new.out)
    (g.R.Shelf.files c.args.reel.now) c.args.name.now c.found_unlisted.ensures c.args.tail.now c.scan.new.tell c.in-Ok-scan.now.items c.in-Ok.ensures
    c.in-Ok-scan.ensures.done (sym c.as_slice.ensures.value ∙ same_by c.as_slice.result.now c.args.tail.now c.if-ne.ensures)
