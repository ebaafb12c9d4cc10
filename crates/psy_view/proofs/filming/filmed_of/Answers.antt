-- What is left of the proof of `filming::filmed_of`.
use Rattle.std.proofs.Common.{refl, subst}
use Rattle.psy_plan.specs.Courses.{Stops}
use Rattle.psy_plan.specs.Programs.{IsRefused}
use Rattle.psy_view.specs.Views.{by_other}
use Rattle.psy_view.proofs.FilmingLemmas.{program_told, refused_other, refused_told}
use Rattle.psy_view.proofs.PlanLemmas.{shown_as}
use Rattle.psy_view.proofs.filming.filmed_of.Goals as goal

pub returns-in-Some-clause-told : goal.returns-in-Some-clause-told
returns-in-Some-clause-told g c = refused_other _ _ _ _ _ _ _ refl _ _ (rw c.in-Some.is at c.in_ok-told-in-Err-Refused.ensures.film)

pub returns-in-None-clause-told : goal.returns-in-None-clause-told
returns-in-None-clause-told g c =
    let text = c.args.text.now in
    let is = subst (Stops (IsRefused text)) c.in-Err-Refused.field-0-is c.in-Err-Refused.ensures.refused in
    refused_told _ _ _ _ _ _ _ refl text _ is (λ notes told other. by_other _ _ _ _ text told other)
    (rw c.in-None.is at c.in_ok-told-in-Err-Refused.ensures.film) c.refused.result c.refused.ensures.status c.refused.ensures.told

pub returns-clause-told : goal.returns-clause-told
returns-clause-told g c =
    shown_as _ _ c.film_by.result c.film_by.ensures.film (program_told _ _ _ _ _ _ c.args.program.now c.args.text.now _ c.in-Ok.ensures.unit)
