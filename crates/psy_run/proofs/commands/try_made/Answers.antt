-- What is left of the proof of `commands::try_made`.
use Rattle.std.proofs.Common.{◌≡◌, sym, subst}
use Rattle.psy_history.specs.Compiled.{AreInputs}
use Rattle.psy_run.specs.declared.refusal.Stop.TheVariants.{Memory}
use Rattle.psy_run.specs.Outcome.{halts_memory}
use Rattle.psy_run.specs.Services.{Tried}
use Rattle.psy_run.specs.Supplies.{supply_of}
use Rattle.psy_run.proofs.Courses.{halts_exit}
use Rattle.psy_history.proofs.lemmas.NoInputs.{are_no_inputs}
use Rattle.psy_run.proofs.ToldLemmas.{trial_untranslated, trial_unsupplied, trial_unpaced, trial_gives, can_try}
use Rattle.psy_run.proofs.commands.try_made.Goals as goal

pub returns-in_err-text-clause-err : goal.returns-in_err-text-clause-err
returns-in_err-text-clause-err c failed before after = halts_exit _ _ _ _ Memory _ c.from_residual.ensures.1 halts_memory

pub returns-in_err-unit-clause-err : goal.returns-in_err-unit-clause-err
returns-in_err-unit-clause-err c failed before after = halts_exit _ _ _ _ _ _ c.from_residual-in_err-unit.ensures.1
    (trial_untranslated c.args.seed c.args.until _ c.in_ok-text.ensures _ _ _ _ (c.in_err-unit.ensures.err _ _ _))

pub returns-in_err-supply-clause-err : goal.returns-in_err-supply-clause-err
returns-in_err-supply-clause-err c failed before after = halts_exit _ _ _ _ _ _ c.from_residual-in_err-supply.ensures.1
    (trial_unsupplied c.args.seed c.args.until _ c.in_ok-text.ensures _ c.in_ok-unit.ensures.ok _ _ _ _ (c.in_err-supply.ensures.err _ _ _))

pub returns-in_err-pace-clause-err : goal.returns-in_err-pace-clause-err
returns-in_err-pace-clause-err c failed before after =
    let supply = c.in_ok-supply.supply in
    let gives = c.in_ok-supply.ensures.ok in
    halts_exit _ _ _ _ _ _ c.from_residual-in_err-pace.ensures.1
    (trial_unpaced c.args.seed c.args.until _ c.in_ok-text.ensures _ c.in_ok-unit.ensures.ok (supply_of supply) gives _ _ _ _ (c.in_err-pace.ensures.err _ _ _))

pub returns-in_err-inputs-clause-err : goal.returns-in_err-inputs-clause-err
returns-in_err-inputs-clause-err c failed before after = halts_exit _ _ _ _ Memory _ c.from_residual-in_err-inputs.ensures.1 halts_memory

pub boot-requires-clause-inputs : goal.boot-requires-clause-inputs
boot-requires-clause-inputs c = subst (AreInputs c.in_ok-unit.unit) (sym c.in_ok-inputs.ensures) (are_no_inputs c.in_ok-unit.unit)

pub returns-in-Ok-clause-ok : goal.returns-in-Ok-clause-ok
returns-in-Ok-clause-ok c =
    let supply = c.in_ok-supply.supply in
    let gives = c.in_ok-supply.ensures.ok in
    let plan = c.in-Ok.kernel.plan in
    let its = c.in-Ok.ensures in
    let same : Tried plan.unit plan.nexts plan.sizes plan.until ≡ Tried c.in_ok-unit.unit supply.ways.nexts supply.sizes c.args.until = λ i. Tried (its.its_unit i) (its.its_nexts i) (its.its_sizes i) (its.its_until i) in
    trial_gives c.args.seed c.args.until _ c.in_ok-text.ensures _ c.in_ok-unit.ensures.ok (supply_of supply) gives _ c.in_ok-pace.ensures.ok same

pub returns-in-Ok-clause-can : goal.returns-in-Ok-clause-can
returns-in-Ok-clause-can c =
    let its = c.in-Ok.ensures in
    can_try c.in-Ok.kernel c.in_ok-unit.unit c.in_ok-inputs.inputs.lists c.nothing_said.result its.booted its.plan its.its_unit c.in_ok-inputs.ensures c.nothing_said.ensures

pub returns-clause-err : goal.returns-clause-err
returns-clause-err c failed before after = halts_memory
