-- What is left of the proof of `encoding::put_functions`.
use Rattle.psy_image.specs.Bytes.{function_bytes}
use Rattle.psy_image.proofs.Written.{flat_more}
use Rattle.psy_image.proofs.encoding.put_functions.Goals as goal

pub functions-preserved : goal.functions-preserved
functions-preserved c = flat_more function_bytes c.args.functions.now c.functions.function-index c.function-item.result _ _ _ c.functions-test.true c.function-item.is c.in_ok-put_function.ensures c.functions.invariant
