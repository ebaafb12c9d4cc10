-- What is left of the proof of `told::state`.
use Rattle.std.proofs.Common.{◌∙◌, ap, refl, sym, subst, Err}
use Rattle.psy_script.specs.Faults.{HasManyLines, IsFirst}
use Rattle.psy_script.specs.Inputs.{inputs_judge}
use Rattle.psy_run.specs.declared.refusal.File.TheVariants.{Inputs}
use Rattle.psy_run.specs.Outcome.{Halts}
use Rattle.psy_run.specs.Steps.{stating}
use Rattle.psy_run.proofs.ToldLemmas.{halts_by_text}
use Rattle.psy_run.proofs.told.state.Goals as goal

pub returns-in-Err-clause-err : goal.returns-in-Err-clause-err
returns-in-Err-clause-err c failed before after =
    let unit = c.args.unit.now in
    let bytes = c.args.bytes.now.items in
    subst (Halts (stating unit bytes) failed before after) (sym c.refused.ensures) (halts_by_text (stating unit bytes) Inputs failed before after c.in-Err.fault
    (λ kind line is. (refl, subst (λ text. IsFirst (inputs_judge unit) text kind line) c.as_slice.ensures.value (c.read_inputs.ensures.fault kind line (c.in-Err.is ∙ ap Err is))))
    (λ is. subst HasManyLines c.as_slice.ensures.value (c.read_inputs.ensures.lines (c.in-Err.is ∙ ap Err is))))
