-- What is left of the proof of `functions::emit_function`.
use Rattle.std.proofs.Common.{ap, arith}
use Rattle.psy_meaning.specs.Depths.{loops_in}
use Rattle.psy_gen.proofs.Lengths.{loops_fewer}
use Rattle.psy_gen.proofs.functions.emit_function.Goals as goal

pub layout_of-requires : goal.layout_of-requires
layout_of-requires c = omega (arith, c.requires.function.slots)

pub emit_stmts-requires-clause-counters : goal.emit_stmts-requires-clause-counters
emit_stmts-requires-clause-counters c = omega (arith, c.requires.room, loops_fewer c.args.function.now.stmts, ap loops_in c.as_slice.ensures)
