-- What is left of the proof of `kernels::boot_text`.
use Rattle.std.proofs.Common.{◌≡◌, sym, subst}
use Rattle.psy_history.specs.Compiled.{AreInputs}
use Rattle.psy_history.proofs.lemmas.NoInputs.{are_no_inputs}
use Rattle.psy_run.specs.declared.refusal.Stop.TheVariants.{Memory}
use Rattle.psy_run.specs.Outcome.{halts_memory}
use Rattle.psy_run.specs.Services.{Tried, planned_run}
use Rattle.psy_run.specs.Supplies.{supply_of}
use Rattle.psy_run.proofs.Courses.{halts_exit}
use Rattle.psy_run.proofs.KernelPlans.{plan_untranslated, plan_unsupplied, plan_gives}
use Rattle.psy_run.proofs.kernels.boot_text.Goals as goal

pub returns-in_err-unit-clause-err : goal.returns-in_err-unit-clause-err
returns-in_err-unit-clause-err c failed before after = halts_exit _ _ _ _ _ _ c.from_residual.ensures.1
    (plan_untranslated c.args.text.now.items c.args.until _ _ _ _ (c.in_err-unit.ensures.err _ _ _))

pub returns-in_err-supply-clause-err : goal.returns-in_err-supply-clause-err
returns-in_err-supply-clause-err c failed before after = halts_exit _ _ _ _ _ _ c.from_residual-in_err-supply.ensures.1
    (plan_unsupplied c.args.text.now.items c.args.until _ c.in_ok-unit.ensures.ok _ _ _ _ (c.in_err-supply.ensures.err _ _ _))

pub returns-in_err-inputs-clause-err : goal.returns-in_err-inputs-clause-err
returns-in_err-inputs-clause-err c failed before after = halts_exit _ _ _ _ Memory _ c.from_residual-in_err-inputs.ensures.1 halts_memory

pub boot-requires-clause-inputs : goal.boot-requires-clause-inputs
boot-requires-clause-inputs c = subst (AreInputs c.in_ok-unit.unit) (sym c.in_ok-inputs.ensures) (are_no_inputs c.in_ok-unit.unit)

pub returns-in-Ok-clause-given : goal.returns-in-Ok-clause-given
returns-in-Ok-clause-given c =
    let supply = c.in_ok-supply.supply in
    let gives = c.in_ok-supply.ensures.ok in
    let plan = c.in-Ok.kernel.plan in
    let its = c.in-Ok.ensures in
    let same : planned_run plan ≡ Tried c.in_ok-unit.unit supply.ways.nexts supply.sizes c.args.until = λ i. Tried (its.its_unit i) (its.its_nexts i) (its.its_sizes i) (its.its_until i) in
    plan_gives c.args.text.now.items c.args.until _ c.in_ok-unit.ensures.ok (supply_of supply) gives _ same

pub returns-in-Err-clause-err : goal.returns-in-Err-clause-err
returns-in-Err-clause-err c failed before after = halts_memory
