-- What each loop of `kernel::boot::declared_of` keeps.
use Rattle.std.proofs.Common.{◌≡◌}
use Rattle.std.specs.List.{range_with_len}
use Rattle.psy_kernel.proofs.kernel.boot.declared_of.Given as goal

abbrev pub invariant-loop-processor : goal.invariant-loop-processor
invariant-loop-processor l = l.declared.items ≡ range_with_len 0 l.processor
