-- What is left of the proof of `filming::filmed_with`.
use Rattle.std.proofs.Common.{refl, subst, sym}
use Rattle.psy_plan.specs.Courses.{Stops}
use Rattle.psy_plan.specs.Programs.{IsRefused}
use Rattle.psy_view.specs.Pairing.{AreRead}
use Rattle.psy_view.specs.Views.{with_other}
use Rattle.psy_view.proofs.FilmingLemmas.{inputs_told, ok_is, refused_other, refused_told, unfed_other, unfed_told}
use Rattle.psy_view.proofs.PlanLemmas.{shown_as}
use Rattle.psy_view.proofs.filming.filmed_with.Goals.{in-Some-2, in-None-2}
use Rattle.psy_view.proofs.filming.filmed_with.Goals as goal

pub returns-in-Some-clause-told : goal.returns-in-Some-clause-told
returns-in-Some-clause-told g c = refused_other _ _ _ _ _ _ _ refl _ _ (rw c.in-Some.is at c.in_ok-told-in-Err-Refused.ensures.film)

pub returns-in-None-clause-told : goal.returns-in-None-clause-told
returns-in-None-clause-told g c =
    let text = c.args.text.now in
    let why = subst (Stops (IsRefused text)) c.in-Err-Refused.field-0-is c.in-Err-Refused.ensures.refused in
    let is = subst (IsRefused text) (sym c.in-Err-Refused.refusal-is) why in
    refused_told _ _ _ _ _ _ _ refl text _ is (λ notes told other. with_other _ _ _ _ _ text c.args.fed.now told other)
    (rw c.in-None.is at c.in_ok-told-in-Err-Refused.ensures.film) c.refused.result c.refused.ensures.status c.refused.ensures.told

pub returns-in-Told-clause-told : goal.returns-in-Told-clause-told
returns-in-Told-clause-told g c =
    let program = c.args.names.program.now in
    let inputs = c.args.names.inputs.now in
    let text = c.args.text.now in
    let fed = c.args.fed.now in
    let is = c.in-Ok.ensures.unit in
    let unfed = subst (AreRead c.in-Ok.read.unit inputs fed) c.in-Told.is c.in_ok-came.ensures in
    elim c.match-branch-5.branch [
      | in-Some-2 w ↦
          ok_is _ _ _ w.result-is (unfed_other _ _ _ _ _ _ program inputs text fed _ is _ _ (rw w.in-Some-2.is at c.in_ok-told-in-Told.ensures.film))
      | in-None-2 w ↦
          ok_is _ _ _ w.result-is
          (unfed_told _ _ _ _ _ _ program inputs text fed _ is (rw w.in-None-2.is at c.in_ok-told-in-Told.ensures.film) _ _ unfed.0 unfed.1)
    ]

pub returns-clause-told : goal.returns-clause-told
returns-clause-told g c =
    let is = subst (AreRead c.in-Ok.read.unit c.args.names.inputs.now c.args.fed.now) c.in-Of.is c.in_ok-came.ensures in
    shown_as _ _ c.film_by.result c.film_by.ensures.film
    (inputs_told _ _ _ _ _ _ c.args.names.program.now c.args.names.inputs.now c.args.text.now c.args.fed.now _ c.in-Ok.ensures.unit _ is)
