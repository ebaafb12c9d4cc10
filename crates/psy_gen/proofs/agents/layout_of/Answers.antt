-- What is left of the proof of `agents::layout_of`.
use Rattle.std.proofs.Common.{ap, arith}
use Rattle.psy_tree.specs.Paths.{total}
use Rattle.psy_gen.proofs.Small.{cells_through}
use Rattle.psy_gen.proofs.agents.layout_of.Goals as goal

pub add-requires : goal.add-requires
add-requires c = omega (arith, c.requires, ap total c.loop-slot.invariant, cells_through c.args.slots.now c.loop-slot.slot-index c.slot-item.result c.loop-slot-test.true c.slot-item.is)
