-- What is left of the proof of `images::image_of`.
use Rattle.std.proofs.Common.{refl}
use Rattle.psy_run.specs.declared.refusal.Refusal.TheVariants.{Large}
use Rattle.psy_run.specs.Outcome.{halts_memory, halts_refused}
use Rattle.psy_run.proofs.images.image_of.Goals as goal

pub returns-in-Err-Large-clause-err : goal.returns-in-Err-Large-clause-err
returns-in-Err-Large-clause-err c failed before after =
    let (out, spelled, many) = c.in-Err-Large.ensures.large c.in-Err-Large.field-0-is in
    halts_refused Large (refl, out, spelled, many)

pub returns-in-Err-Memory-clause-err : goal.returns-in-Err-Memory-clause-err
returns-in-Err-Memory-clause-err c failed before after = halts_memory
