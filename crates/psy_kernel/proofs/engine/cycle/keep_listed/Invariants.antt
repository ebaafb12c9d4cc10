-- What the loop of `engine::cycle::keep_listed` keeps.
use Rattle.psy_kernel.proofs.KeptCopies.{AreKept}
use Rattle.psy_kernel.proofs.engine.cycle.keep_listed.Given as goal

abbrev pub invariant-copies : goal.invariant-copies
invariant-copies l = AreKept l.own l.machine.machine.copies l.fn.ended.items l.ended.items l.place
