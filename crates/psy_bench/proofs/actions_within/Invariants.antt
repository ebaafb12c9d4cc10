-- What each loop of `actions_within` keeps.
use Rattle.std.proofs.Common.{◌≡◌}
use Rattle.psy_bench.specs.Loop.{IsLoop, loop_code}
use Rattle.psy_bench.proofs.actions_within.Given as goal

abbrev pub invariant-loop : goal.invariant-loop
invariant-loop l = IsLoop l.machine
