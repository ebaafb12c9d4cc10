-- What each loop of `engine::boot::stalls_of` keeps.
use Rattle.std.proofs.Common.{◌≡◌, ◌==◌, filter, take}
use Rattle.psy_budget.specs.declared.charge.Stall.{Stall}
use Rattle.psy_kernel.proofs.engine.boot.stalls_of.Given as goal

abbrev pub invariant-loop-stall : goal.invariant-loop-stall
invariant-loop-stall l = l.stalls ≡ filter (λ (s : Stall). s.agent == l.agent) (take l.stall-index l.all)
