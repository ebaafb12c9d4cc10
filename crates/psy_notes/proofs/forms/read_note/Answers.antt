-- What is left of the proof of `forms::read_note`.
use Rattle.std.proofs.Common.{◌≡◌, ◌∙◌, ⊎_elim, refl, sym, subst, arith}
use Rattle.std.specs.Prelude.{slice_index_or}
use Rattle.std.proofs.lemmas.Bool.{cases_lt}
use Rattle.std.proofs.lemmas.List.{get_or_default}
use Rattle.psy_log.specs.Forms.{says}
use Rattle.psy_notes.proofs.forms.read_note.Goals as goal

pub forms-preserved : goal.forms-preserved
forms-preserved c = λ note more told k within is eq.
    let forms = c.args.forms.now in
    let at = c.forms.form-index in
    let form = (says note).0 in
    ⊎_elim (λ before. c.forms.invariant note more told k before is eq)
    (λ later.
    let here : k ≡ at = omega (arith, within, later) in
    let found = subst (λ n. slice_index_or forms n form ≡ form) here is in
    c.in_default.ensures.none refl note more told (sym found ∙ get_or_default forms at form _ c.forms-test.true) eq) (cases_lt k at)
