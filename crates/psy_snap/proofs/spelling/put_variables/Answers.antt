-- What is left of the proof of `spelling::put_variables`.
use Rattle.psy_base.specs.declared.limits.TheConstants.{FILE_BYTES}
use Rattle.psy_snap.specs.Bytes.{variable_bytes}
use Rattle.psy_snap.proofs.Written.{flat_passes}
use Rattle.psy_snap.proofs.spelling.put_variables.Goals as goal

pub returns-in-Err-clause-large : goal.returns-in-Err-clause-large
returns-in-Err-clause-large c = λ e.
    flat_passes variable_bytes c.args.variables.now c.variables.variable-index c.variable-item.result c.args.out.now c.variables.out FILE_BYTES c.variables-test.true (c.variable-item.is) c.variables.invariant (c.in-Err.ensures.large e)
