-- What is left of the proof of `plan::reported`.
use Rattle.std.proofs.Common.{[], ◌∷◌, subst}
use Rattle.psy_plan.specs.Lines.{line_of}
use Rattle.psy_plan.specs.Courses.{Stops}
use Rattle.psy_plan.specs.Programs.{IsRefused}
use Rattle.psy_report.specs.Measured.{IsUnmeasured}
use Rattle.psy_view.specs.Asked.{Report}
use Rattle.psy_view.specs.Views.{IsTold, ViewOf, no_report, unmeasured}
use Rattle.psy_view.proofs.PlanLemmas.{refused_as}
use Rattle.psy_view.proofs.plan.reported.Goals as goal

pub returns-in-Err-Refused : goal.returns-in-Err-Refused
returns-in-Err-Refused c =
    let name = c.args.name.now in
    let bytes = c.args.bytes.now in
    let refusal = c.in-Err-Refused.refusal in
    refused_as (IsTold name bytes (line_of refusal)) (ViewOf (Report name c.args.until) (bytes ∷ [])) c.refused.result c.refused.ensures.status c.refused.ensures.told
    (λ text told. no_report name bytes c.args.until refusal text (subst (Stops (IsRefused bytes)) c.in-Err-Refused.field-0-is c.in-Err-Refused.ensures.refused) told)

pub returns-in-Err-Refused-report : goal.returns-in-Err-Refused-report
returns-in-Err-Refused-report c =
    let name = c.args.name.now in
    let bytes = c.args.bytes.now in
    let refusal = c.in-Err-Refused-report.refusal in
    refused_as (IsTold name bytes (line_of refusal)) (ViewOf (Report name c.args.until) (bytes ∷ [])) c.refused-in-Err-Refused-report.result
    c.refused-in-Err-Refused-report.ensures.status c.refused-in-Err-Refused-report.ensures.told
    (λ text told. unmeasured name bytes c.args.until c.in-Ok.unit refusal text c.in-Ok.ensures.unit
    (subst (Stops (IsUnmeasured c.in-Ok.unit c.args.until)) c.in-Err-Refused-report.field-0-is c.in-Err-Refused-report.ensures.refused) told)
