-- What is left of the proof of `read::read`.
use Rattle.std.proofs.Common.{◌≡◌, ◌∙◌, ◌++◌, List, sym, ap, subst}
use Rattle.psy_log.specs.declared.note.Note.{Note}
use Rattle.psy_notes.specs.Texts.{Leads, text_of}
use Rattle.psy_notes.proofs.Walks.{Leads-push, text_of-push}
use Rattle.psy_notes.proofs.read.read.Goals as goal

pub reading-preserved : goal.reading-preserved
reading-preserved c =
    let step = c.in-Some.ensures.some in
    let notes = c.reading.notes.items in
    let note = c.in-Some.step.note in
    let rest = c.in-Some.step.rest.now in
    subst (λ (ns : List Note). Leads c.args.first ns c.in-Some.step.stand × (c.args.text.now ≡ text_of ns ++ rest)) (sym c.in_ok-push.ensures.items) (
      Leads-push c.args.first notes c.reading.stand note c.in-Some.step.stand c.reading.invariant.0 step.0,
      c.reading.invariant.1 ∙ ap (λ t. text_of notes ++ t) step.1 ∙ sym (text_of-push notes note rest),
    )
