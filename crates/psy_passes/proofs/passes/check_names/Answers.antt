-- What is left of the proof of `passes::check_names`.
use Rattle.std.proofs.Common.{◌≡◌, ◌∙◌, sym, ap, subst, None, Some, Err, arith}
use Rattle.psy_passes.proofs.lemmas.ToldApart.{differ_by, same_by}
use Rattle.psy_lists.proofs.lemmas.Results.{err_is}
use Rattle.psy_passes.specs.declared.scan_fault.ScanFault.TheVariants as scan
use Rattle.psy_passes.specs.NameChecks.{Looks}
use Rattle.psy_passes.specs.Outcomes.{IsOfNames, since}
use Rattle.psy_passes.proofs.Sinces.{halted_changed, names_only, not_unlisted, unread_is}
use Rattle.psy_passes.proofs.Surveyed.{changed_end, name_unlisted, names_listed}
use Rattle.psy_passes.proofs.passes.check_names.Goals as goal

pub returns-in-Err-clause-unlisted : goal.returns-in-Err-clause-unlisted
returns-in-Err-clause-unlisted g c = λ line is. absurd (not_unlisted c.in-Err.fault line (sym c.since.ensures ∙ err_is _ _ is))

pub returns-in-Err-clause-changed : goal.returns-in-Err-clause-changed
returns-in-Err-clause-changed g c = λ is.
    halted_changed Looks (λ state note. ⊥) c.new-check.result None None (g.R.Shelf.files c.args.reel.now) c.args.name.now c.args.tail.now c.one_reading.ensures.not_both
    c.one_front.ensures (λ state note no. no) c.in-Err.fault c.in-Err.ensures.halts (sym c.since.ensures ∙ err_is _ _ is)

pub returns-in-Err-clause-only : goal.returns-in-Err-clause-only
returns-in-Err-clause-only g c =
    subst IsOfNames (sym c.since.ensures) (names_only c.in-Err.fault (λ is. let rose = c.in-Err.ensures.unwritten (ap Err is) in omega (arith, rose)))

pub returns-in-Err-clause-unread : goal.returns-in-Err-clause-unread
returns-in-Err-clause-unread g c = λ is. c.in-Err.ensures.unread (ap Err (unread_is c.in-Err.fault (sym c.since.ensures ∙ err_is _ _ is)))

pub returns-in-Err-clause-readable : goal.returns-in-Err-clause-readable
returns-in-Err-clause-readable g c = λ differ.
    c.in-Err.ensures.readable (λ is. differ (ap Err (c.since.ensures ∙ ap since (err_is c.in-Err.fault scan.Unread is))))

pub returns-then-ne-clause-changed : goal.returns-then-ne-clause-changed
returns-then-ne-clause-changed g c = λ _.
    changed_end Looks (λ state note. ⊥) c.new-check.result None None (g.R.Shelf.files c.args.reel.now) c.args.name.now c.args.tail.now c.one_front.ensures c.scan.new.tell c.in-Ok.now.items
    c.in-Ok.ensures.done (λ is. differ_by c.as_slice.result.now c.args.tail.now c.if-ne.ensures (c.as_slice.ensures.value ∙ is))

pub returns-in-Some-clause-unlisted : goal.returns-in-Some-clause-unlisted
returns-in-Some-clause-unlisted g c = λ line is.
    let found : c.in-Some.line ≡ line = cc is in
    name_unlisted c.found_unlisted.ensures (g.R.Shelf.files c.args.reel.now) c.args.name.now c.args.listed.now c.args.tail.now c.in-Ok.now.items c.new-check.result
    c.scan.new.tell None None line c.requires c.new-check.ensures.listed c.new-check.ensures.notes c.new-check.ensures.unlisted c.in-Ok.ensures.done
    (sym c.as_slice.ensures.value ∙ same_by c.as_slice.result.now c.args.tail.now c.if-ne.ensures) (c.in-Some.is ∙ ap Some found)

pub returns-clause-done : goal.returns-clause-done
returns-clause-done g c =
    names_listed c.found_unlisted.ensures (g.R.Shelf.files c.args.reel.now) c.args.name.now c.args.listed.now c.args.tail.now c.in-Ok.now.items c.new-check.result
    c.scan.new.tell None None c.requires c.new-check.ensures.listed c.new-check.ensures.notes c.new-check.ensures.unlisted c.in-Ok.ensures.done
    (sym c.as_slice.ensures.value ∙ same_by c.as_slice.result.now c.args.tail.now c.if-ne.ensures) c.in-None.is
