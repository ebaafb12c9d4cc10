-- What is left of the proof of `trace_commands::tell`.
use Rattle.std.proofs.Common.{◌≤◌, ◌<◌, ◌∙◌, ap, subst, length, refl, Err}
use Rattle.psy_base.specs.declared.limits.TheConstants.{FILE_BYTES}
use Rattle.psy_run.specs.declared.refusal.Refusal.TheVariants.{LongTrace}
use Rattle.psy_run.specs.Outcome.{halts_memory, halts_refused}
use Rattle.psy_run.proofs.MeaningText.{traced_text}
use Rattle.psy_run.proofs.trace_commands.tell.Goals as goal

pub returns-in-Ok-clause-told : goal.returns-in-Ok-clause-told
returns-in-Ok-clause-told c = c.in-Ok.ensures.text ∙ traced_text c.alike.ensures c.args.kernel.now c.requires.can

pub returns-in-Ok-clause-fits : goal.returns-in-Ok-clause-fits
returns-in-Ok-clause-fits c = subst (λ text. length text ≤ FILE_BYTES) (c.in-Ok.ensures.text ∙ traced_text c.alike.ensures c.args.kernel.now c.requires.can) c.in-Ok.ensures.few

pub returns-in-Err-Large-clause-err : goal.returns-in-Err-Large-clause-err
returns-in-Err-Large-clause-err c failed before after =
    halts_refused LongTrace (
      refl,
      subst (λ text. FILE_BYTES < length text) (traced_text c.alike.ensures c.args.kernel.now c.requires.can)
          (c.collect.ensures.large (c.in-Err-Large.is ∙ ap Err c.in-Err-Large.field-0-is)),
    )

pub returns-in-Err-Memory-clause-err : goal.returns-in-Err-Memory-clause-err
returns-in-Err-Memory-clause-err c failed before after = halts_memory
