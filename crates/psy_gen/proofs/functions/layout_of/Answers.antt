-- What is left of the proof of `functions::layout_of`.
use Rattle.std.proofs.Common.{◌+◌, ap, arith}
use Rattle.psy_tree.specs.Paths.{total}
use Rattle.psy_gen.proofs.Small.{ones}
use Rattle.psy_gen.proofs.functions.layout_of.Goals as goal

pub add-requires : goal.add-requires
add-requires c = omega (arith, c.requires, ap total c.loop.invariant, ones c.loop.counter, c.loop-test.true)

pub add-requires-in-loop-2 : goal.add-requires-in-loop-2
add-requires-in-loop-2 c = omega (arith, c.requires, ap total c.loop-2.invariant, ones (c.args.function.now.params + c.loop-2.counter), c.loop-2-test.true, c.len-end.ensures)
