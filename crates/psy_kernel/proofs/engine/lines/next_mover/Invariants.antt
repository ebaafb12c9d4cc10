-- What each loop of `engine::lines::next_mover` keeps.
use Rattle.psy_kernel.proofs.Skipped.{Skips}
use Rattle.psy_kernel.proofs.engine.lines.next_mover.Given as goal

abbrev pub invariant-movers : goal.invariant-movers
invariant-movers l = Skips l.movers l.agents l.place l.at
