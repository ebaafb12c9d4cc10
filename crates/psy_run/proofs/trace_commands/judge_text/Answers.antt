-- What is left of the proof of `trace_commands::judge_text`.
use Rattle.std.proofs.Common.{◌≡◌, subst, IfErr}
use Rattle.psy_run.specs.Outcome.{Halts}
use Rattle.psy_run.specs.Steps.{auditing, judged_by}
use Rattle.psy_run.proofs.trace_commands.judge_text.Goals as goal

pub returns-clause-err : goal.returns-clause-err
returns-clause-err c failed before after =
    let plan = c.plan_of-plan.result in
    let its = c.plan_of-plan.ensures in
    let supply = c.args.supply in
    let said = c.args.script.now in
    let same : judged_by plan.unit plan.nexts plan.sizes plan.until said ≡ judged_by c.args.unit supply.ways.nexts supply.sizes c.args.until said =
    λ i. judged_by (its.its_unit i) (its.its_nexts i) (its.its_sizes i) (its.its_until i) said in
    subst (λ j. IfErr c.judge_by.result (Halts (auditing j c.args.text.now.items) failed before after)) same (c.judge_by.ensures.err failed before after)
