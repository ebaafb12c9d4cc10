-- What each loop of `engine::boot::declared_of` keeps.
use Rattle.std.proofs.Common.{◌≡◌}
use Rattle.std.specs.List.{range_with_len}
use Rattle.psy_kernel.proofs.engine.boot.declared_of.Given as goal

abbrev pub invariant-loop-agent : goal.invariant-loop-agent
invariant-loop-agent l = l.declared.items ≡ range_with_len 0 l.agent
