-- What each loop of `engine::freeze::agents_left` keeps.
use Rattle.std.proofs.Common.{◌≡◌, map}
use Rattle.std.specs.List.{range_with_len}
use Rattle.psy_kernel.specs.Freezing.{agent_left}
use Rattle.psy_kernel.proofs.engine.freeze.agents_left.Given as goal

abbrev pub invariant-agents : goal.invariant-agents
invariant-agents l = l.agents ≡ map (agent_left l.code l.committed l.seats l.runners) (range_with_len 0 l.agent)
