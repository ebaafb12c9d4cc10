-- What is left of the proof of `before::note_publication`.
use Rattle.std.proofs.Common.{◌∙◌, ◌+◌, ◌^◌, ◌<◌, List, ℕ, get_or, ap, subst, sym}
use Rattle.std.proofs.Math.ListN.{set}
use Rattle.psy_audit.proofs.Befores.{no_publication_noted, number_few, publication_noted}
use Rattle.psy_audit.proofs.before.note_publication.Goals as goal

pub returns-in-Some : goal.returns-in-Some
returns-in-Some c = λ n before is no few.
    let v = c.in-Some.publication.variable in
    let small = subst (λ (xs : List ℕ). get_or xs v 0 < 2 ^ 63) (sym is) (number_few n before no v few) in
    c.count_one.ensures small ∙ ap (λ (xs : List ℕ). set xs v (get_or xs v 0 + 1)) is
    ∙ publication_noted n before no c.args.line.now c.in-Some.publication (sym c.in-Some.ensures)

pub returns-in-None : goal.returns-in-None
returns-in-None c = λ n before is no few. is ∙ no_publication_noted n before no c.args.line.now (sym c.in-None.ensures)
