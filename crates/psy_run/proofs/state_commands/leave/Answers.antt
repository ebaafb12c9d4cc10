-- What is left of the proof of `state_commands::leave`.
use Rattle.std.proofs.Common.{◌≡◌, ◌⊎◌, ◌∙◌, sym, ap, subst, ◌<◌, ◌≤◌, length, Err}
use Rattle.psy_base.specs.declared.limits.TheConstants.{FILE_BYTES}
use Rattle.psy_dates.specs.declared.plan.Plan.{Plan}
use Rattle.psy_run.specs.declared.refusal.Refusal.TheVariants.{Busy}
use Rattle.psy_run.specs.declared.refusal.Stop.TheVariants as stop
use Rattle.psy_run.specs.Outcome.{halts_memory}
use Rattle.psy_tree.specs.Parts.{agent_at}
use Rattle.psy_run.proofs.Saving.{leaving_busy, leaving_gives, leaving_long, left_text}
use Rattle.psy_run.proofs.state_commands.leave.Goals as goal

pub returns-in-Ok-clause-left : goal.returns-in-Ok-clause-left
returns-in-Ok-clause-left c =
    c.in-Ok.ensures.spelled ∙ left_text c.args.kernel.now c.pass_dates.new.kernel c.requires.can c.pass_dates.ensures c.alike_behind.ensures.left

pub returns-in-Ok-clause-given : goal.returns-in-Ok-clause-given
returns-in-Ok-clause-given c =
    leaving_gives c.args.kernel.now c.pass_dates.new.kernel c.requires.can c.pass_dates.ensures c.quiet_alike.ensures.quiet c.alike_behind.ensures.left c.in-Ok.ensures.quiet
    (subst (λ text. length text ≤ FILE_BYTES) c.in-Ok.ensures.spelled c.in-Ok.ensures.few)

pub returns-in-Err-Busy-clause-err : goal.returns-in-Err-Busy-clause-err
returns-in-Err-Busy-clause-err c failed before after =
    let now = c.pass_dates.new.kernel in
    let agent = c.in-Err-Busy.agent in
    leaving_busy c.args.kernel.now now c.requires.can c.pass_dates.ensures c.quiet_alike.ensures.busy failed before after agent c.busy.result
    (c.save.ensures.busy agent (c.in-Err-Busy.is ∙ ap Err c.in-Err-Busy.field-0-is))
    (subst (λ (plan : Plan). (c.busy.result ≡ stop.Refused (Busy (agent_at plan.unit agent).name)) ⊎ (c.busy.result ≡ stop.Memory)) c.plan.ensures.plan c.busy.ensures)

pub returns-in-Err-Large-clause-err : goal.returns-in-Err-Large-clause-err
returns-in-Err-Large-clause-err c failed before after =
    let is = c.save.ensures.large (c.in-Err-Large.is ∙ ap Err c.in-Err-Large.field-0-is) in
    leaving_long c.args.kernel.now c.pass_dates.new.kernel c.requires.can c.pass_dates.ensures c.quiet_alike.ensures.quiet c.alike_behind.ensures.left failed before after is.0 is.1

pub returns-in-Err-Memory-clause-err : goal.returns-in-Err-Memory-clause-err
returns-in-Err-Memory-clause-err c failed before after = halts_memory

pub busy-requires-clause-known : goal.busy-requires-clause-known
busy-requires-clause-known c =
    let is = c.save.ensures.busy c.in-Err-Busy.agent (c.in-Err-Busy.is ∙ ap Err c.in-Err-Busy.field-0-is) in
    subst (λ (plan : Plan). c.in-Err-Busy.agent < length plan.unit.agents) (sym c.plan.ensures.plan) is.known
