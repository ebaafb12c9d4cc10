-- What each loop of `calls::+loops` keeps.
use Rattle.std.proofs.Common.{◌≡◌, ◌-◌, ◌^◌, min, take}
use Rattle.psy_meaning.specs.Depths as depths
use Rattle.psy_flow.proofs.calls.+loops.Given as goal

abbrev pub invariant-loops_in-loop-stmt : goal.invariant-loops_in-loop-stmt
invariant-loops_in-loop-stmt l = l.count ≡ min (depths.loops_in (take l.stmt-index l.stmts)) (2 ^ 64 - 1)
