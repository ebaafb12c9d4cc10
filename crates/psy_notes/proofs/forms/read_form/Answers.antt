-- What is left of the proof of `forms::read_form`.
use Rattle.std.proofs.Common.{◌≡◌, ◌∙◌, List, map, refl, sym, ap, subst}
use Rattle.psy_log.specs.Forms.{says}
use Rattle.psy_log.specs.Table.{Place, fields_of, place_of, spell, words}
use Rattle.psy_notes.specs.Notes.{Fills}
use Rattle.psy_notes.proofs.Lines.{line_of-spell}
use Rattle.psy_notes.proofs.forms.read_form.Goals as goal

pub returns-in_err-filled-clause-none : goal.returns-in_err-filled-clause-none
returns-in_err-filled-clause-none c = λ u note more told is eq.
    let said = (says note).1 in
    let same : fields_of (says note).0 ≡ map place_of c.fields.result.now = ap fields_of is ∙ sym c.fields.ensures in
    c.in_err-filled.ensures.none refl said more (subst (λ (places : List Place). Fills places said) same told)
    (eq ∙ line_of-spell note more ∙ ap (λ (places : List Place). spell (words places said) more) same)
