-- What is left of the proof of `run::keep_step`.
use Rattle.std.proofs.Common.{◌<◌, subst, sym}
use Rattle.psy_collect.specs.Collected.{steps_left}
use Rattle.psy_collect.proofs.Steps.{fewer, unit_due}
use Rattle.psy_collect.proofs.run.keep_step.Goals as goal

pub returns-in_ok-keep_unit-in-UnitDue-clause-goes : goal.returns-in_ok-keep_unit-in-UnitDue-clause-goes
returns-in_ok-keep_unit-in-UnitDue-clause-goes c _ =
    let p = c.args.kernel.now in
    subst (λ q. steps_left q < steps_left p) (sym c.keep_unit.ensures.state)
    (fewer p c.args.kept.now c.requires.running (unit_due p c.in-UnitDue.cycle c.in-UnitDue.field-1 (sym c.in-UnitDue.ensures)))
