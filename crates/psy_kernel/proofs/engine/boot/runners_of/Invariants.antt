-- What each loop of `engine::boot::runners_of` keeps.
use Rattle.std.proofs.Common.{◌≡◌, length}
use Rattle.psy_kernel.specs.Starting.{AreNew}
use Rattle.psy_kernel.proofs.engine.boot.runners_of.Given as goal

abbrev pub invariant-agents : goal.invariant-agents
invariant-agents l = record {
  count : length l.runners.items ≡ l.agent;
  new : AreNew l.code l.script l.runners.items;
}
