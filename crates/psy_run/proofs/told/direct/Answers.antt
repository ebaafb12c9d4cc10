-- What is left of the proof of `told::direct`.
use Rattle.std.proofs.Common.{◌∙◌, ap, refl, sym, subst, Err}
use Rattle.psy_script.specs.Faults.{HasManyLines, IsFirst}
use Rattle.psy_script.specs.Script.{script_judge}
use Rattle.psy_run.specs.declared.refusal.File.TheVariants.{Script}
use Rattle.psy_run.specs.Outcome.{Halts}
use Rattle.psy_run.specs.Steps.{directing}
use Rattle.psy_run.proofs.ToldLemmas.{halts_by_text}
use Rattle.psy_run.proofs.told.direct.Goals as goal

pub returns-in-Err-clause-err : goal.returns-in-Err-clause-err
returns-in-Err-clause-err c failed before after =
    let unit = c.args.unit.now in
    let bytes = c.args.bytes.now.items in
    subst (Halts (directing unit bytes) failed before after) (sym c.refused.ensures) (halts_by_text (directing unit bytes) Script failed before after c.in-Err.fault
    (λ kind line is. (refl, subst (λ text. IsFirst (script_judge unit) text kind line) c.as_slice.ensures.value (c.read_script.ensures.fault kind line (c.in-Err.is ∙ ap Err is))))
    (λ is. subst HasManyLines c.as_slice.ensures.value (c.read_script.ensures.lines (c.in-Err.is ∙ ap Err is))))
