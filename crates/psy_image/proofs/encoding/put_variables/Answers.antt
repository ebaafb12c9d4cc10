-- What is left of the proof of `encoding::put_variables`.
use Rattle.psy_image.specs.Bytes.{variable_bytes}
use Rattle.psy_image.proofs.Written.{flat_more}
use Rattle.psy_image.proofs.encoding.put_variables.Goals as goal

pub variables-preserved : goal.variables-preserved
variables-preserved c = flat_more variable_bytes c.args.variables.now c.variables.variable-index c.variable-item.result _ _ _ c.variables-test.true c.variable-item.is c.in_ok-put_variable.ensures c.variables.invariant
