-- What each loop of `delays::longest` keeps.
use Rattle.std.proofs.Common.{◌≡◌, take}
use Rattle.psy_flow.proofs.DelaysAmong.{delay_by_all}
use Rattle.psy_flow.proofs.delays.longest.Given as goal

abbrev pub invariant-agents : goal.invariant-agents
invariant-agents l = l.greatest ≡ delay_by_all l.unit l.stream (take l.agent-index l.unit.agents)
