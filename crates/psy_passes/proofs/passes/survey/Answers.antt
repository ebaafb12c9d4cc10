-- What is left of the proof of `passes::survey`.
use Rattle.std.proofs.Common.{◌∙◌, Err, ap, sym, subst}
use Rattle.psy_lists.proofs.lemmas.Results.{err_is}
use Rattle.psy_passes.specs.Outcomes.{IsOfForm, IsOfNames}
use Rattle.psy_passes.proofs.passes.survey.Goals as goal

pub returns-in-Err-clause-unlisted : goal.returns-in-Err-clause-unlisted
returns-in-Err-clause-unlisted g c = λ line is. absurd (subst IsOfForm (err_is _ _ is) c.in-Err.ensures.only)

pub returns-in-Err-clause-changed : goal.returns-in-Err-clause-changed
returns-in-Err-clause-changed g c = λ is. absurd (subst IsOfForm (err_is _ _ is) c.in-Err.ensures.only)

pub returns-in-Err-clause-only : goal.returns-in-Err-clause-only
returns-in-Err-clause-only g c = λ is. subst IsOfForm (err_is _ _ is) c.in-Err.ensures.only

pub returns-in-Err-check_names-clause-line : goal.returns-in-Err-check_names-clause-line
returns-in-Err-check_names-clause-line g c = λ line is. absurd (subst IsOfNames (err_is _ _ is) c.in-Err-check_names.ensures.only)

pub returns-in-Err-check_names-clause-unlisted : goal.returns-in-Err-check_names-clause-unlisted
returns-in-Err-check_names-clause-unlisted g c = λ line is. rw c.in-Ok.ensures.reel.1 at (c.in-Err-check_names.ensures.unlisted line (ap Err (err_is _ _ is)))

pub returns-in-Err-check_names-clause-many : goal.returns-in-Err-check_names-clause-many
returns-in-Err-check_names-clause-many g c = λ is. absurd (subst IsOfNames (err_is _ _ is) c.in-Err-check_names.ensures.only)

pub returns-in-Err-check_names-clause-changed : goal.returns-in-Err-check_names-clause-changed
returns-in-Err-check_names-clause-changed g c = λ is.
    let done = c.in-Ok.ensures.done in
    rw c.in-Ok.ensures.reel.1 at (c.in-Err-check_names.ensures.changed (ap Err (err_is _ _ is)) done.0 (rw c.in-Ok.ensures.reel.1 done.1) (sym done.2 ∙ sym c.as_slice-lines.ensures.value))

pub returns-in-Err-check_names-clause-only : goal.returns-in-Err-check_names-clause-only
returns-in-Err-check_names-clause-only g c = λ is. subst IsOfNames (err_is _ _ is) c.in-Err-check_names.ensures.only

pub returns-clause-done : goal.returns-clause-done
returns-clause-done g c =
    let done = rw c.in-Ok.ensures.reel.1 at c.in_default.ensures.done in
    (done.0, done.1, done.2, sym c.as_slice-lines.ensures.value ∙ sym done.3)
