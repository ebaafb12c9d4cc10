-- What is left of the proof of `read::first_step`.
use Rattle.std.proofs.Common.{◌∙◌, refl, sym, ap, subst, arith, length}
use Rattle.std.specs.Prelude.{Contains}
use Rattle.psy_log.specs.Forms.{says}
use Rattle.psy_notes.proofs.Lines.{length-line}
use Rattle.psy_notes.proofs.Walks.{unread, unfit}
use Rattle.psy_notes.proofs.read.first_step.Goals as goal

pub returns-in_err-note-clause-none : goal.returns-in_err-note-clause-none
returns-in_err-note-clause-none c = λ u. unread c.args.stand c.args.text.now
    (λ note more told has. c.in_err-note.ensures.none refl note more told (subst (λ forms. Contains forms (says note).0) (sym c.forms_at.ensures) has))

pub returns-in_err-stand-clause-none : goal.returns-in_err-stand-clause-none
returns-in_err-stand-clause-none c = λ u.
    let read = c.in_ok-note.ensures.some in
    let note = c.in_ok-note.note in
    unfit c.args.stand c.args.text.now note c.in_ok-note.rest.now read.0 (subst (λ forms. Contains forms (says note).0) c.forms_at.ensures read.1) read.2 (sym c.next.ensures ∙ c.in_err-stand.was)

pub returns-clause-some : goal.returns-clause-some
returns-clause-some c =
    let read = c.in_ok-note.ensures.some in
    ((read.0, sym c.next.ensures ∙ c.in_ok-stand.was), read.2)

pub returns-clause-shorter : goal.returns-clause-shorter
returns-clause-shorter c =
    let read = c.in_ok-note.ensures.some in
    omega (arith, length-line c.in_ok-note.note c.in_ok-note.rest.now read.0, ap length read.2)
