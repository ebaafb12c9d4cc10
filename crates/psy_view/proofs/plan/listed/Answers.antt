-- What is left of the proof of `plan::listed`.
use Rattle.std.proofs.Common.{[], ◌∷◌, subst}
use Rattle.psy_plan.specs.Lines.{line_of}
use Rattle.psy_plan.specs.Courses.{Stops}
use Rattle.psy_plan.specs.Programs.{IsRefused}
use Rattle.psy_view.specs.Asked.{Listing}
use Rattle.psy_view.specs.Views.{IsTold, ViewOf, no_listing}
use Rattle.psy_view.proofs.PlanLemmas.{refused_as}
use Rattle.psy_view.proofs.plan.listed.Goals as goal

pub returns-in-Ok : goal.returns-in-Ok
returns-in-Ok c = c.list_of.ensures c.args.name.now

pub returns-in-Err-Refused : goal.returns-in-Err-Refused
returns-in-Err-Refused c =
    let name = c.args.name.now in
    let bytes = c.args.bytes.now in
    let refusal = c.in-Err-Refused.refusal in
    refused_as (IsTold name bytes (line_of refusal)) (ViewOf (Listing name) (bytes ∷ [])) c.refused.result c.refused.ensures.status c.refused.ensures.told
    (λ text told. no_listing name bytes refusal text (subst (Stops (IsRefused bytes)) c.in-Err-Refused.field-0-is c.in-Err-Refused.ensures.refused) told)
