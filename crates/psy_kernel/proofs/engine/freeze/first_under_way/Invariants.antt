-- What each loop of `engine::freeze::first_under_way` keeps.
use Rattle.psy_kernel.specs.Freezing.{NoneUnderWay}
use Rattle.psy_kernel.proofs.engine.freeze.first_under_way.Given as goal

abbrev pub invariant-agents : goal.invariant-agents
invariant-agents l = NoneUnderWay l.date l.seats l.agent
