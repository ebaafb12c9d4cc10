-- What each loop of `engine::open::runners_behind` keeps.
use Rattle.std.proofs.Common.{◌≡◌, length}
use Rattle.psy_kernel.specs.Resuming.{AreBehind}
use Rattle.psy_kernel.proofs.engine.open.runners_behind.Given as goal

abbrev pub invariant-agents : goal.invariant-agents
invariant-agents l = record {
  count : length l.runners.items ≡ l.agent;
  behind : AreBehind l.code l.script l.agents l.runners.items;
}
