-- What each loop of `functions::layout_of` keeps.
use Rattle.std.proofs.Common.{◌≡◌, ◌+◌}
use Rattle.std.specs.Prelude.{replicate}
use Rattle.psy_gen.proofs.functions.layout_of.Given as goal

abbrev pub invariant-loop : goal.invariant-loop
invariant-loop l = l.layout ≡ replicate l.counter 1

abbrev pub invariant-loop-2 : goal.invariant-loop-2
invariant-loop-2 l = l.layout ≡ replicate (l.function.params + l.counter) 1
