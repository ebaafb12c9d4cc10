-- What is left of the proof of `plan::fed`.
use Rattle.std.proofs.Common.{[], ◌∷◌, subst}
use Rattle.psy_plan.specs.Lines.{line_of}
use Rattle.psy_plan.specs.Courses.{Stops}
use Rattle.psy_plan.specs.Programs.{IsRefused}
use Rattle.psy_view.specs.Asked.{Flow}
use Rattle.psy_view.specs.Views.{IsTold, ViewOf, flows, no_flow}
use Rattle.psy_view.proofs.PlanLemmas.{refused_as}
use Rattle.psy_view.proofs.plan.fed.Goals as goal

pub returns-in_ok-flow-in-Ok : goal.returns-in_ok-flow-in-Ok
returns-in_ok-flow-in-Ok c = rw c.in_ok-flow-in-Ok.ensures (flows _ _ _ c.in-Ok.ensures.unit)

pub returns-in-Err-Refused : goal.returns-in-Err-Refused
returns-in-Err-Refused c =
    let name = c.args.name.now in
    let bytes = c.args.bytes.now in
    let refusal = c.in-Err-Refused.refusal in
    refused_as (IsTold name bytes (line_of refusal)) (ViewOf (Flow name) (bytes ∷ [])) c.refused.result c.refused.ensures.status c.refused.ensures.told
    (λ text told. no_flow name bytes refusal text (subst (Stops (IsRefused bytes)) c.in-Err-Refused.field-0-is c.in-Err-Refused.ensures.refused) told)
