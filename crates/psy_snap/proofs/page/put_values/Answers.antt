-- What is left of the proof of `page::put_values`.
use Rattle.psy_base.specs.declared.limits.TheConstants.{FILE_BYTES}
use Rattle.psy_snap.specs.Bytes.{value_bytes}
use Rattle.psy_snap.proofs.Written.{flat_passes_at}
use Rattle.psy_snap.proofs.page.put_values.Goals as goal

pub returns-in-Err-clause-large : goal.returns-in-Err-clause-large
returns-in-Err-clause-large c = λ e. flat_passes_at value_bytes c.args.values.now c.values.value-index _ c.args.out.now c.values.out FILE_BYTES c.values-test.true c.values.invariant (c.in-Err.ensures.large e)
