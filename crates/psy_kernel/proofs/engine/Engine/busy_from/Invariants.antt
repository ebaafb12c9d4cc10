-- What each loop of `engine::Engine::busy_from` keeps.
use Rattle.std.proofs.Common.{ℕ, ◌-◌, ◌<◌, ◌≤◌}
use Rattle.psy_history.specs.Processors.{processors}
use Rattle.psy_kernel.specs.Engines.{IsIdleOn}
use Rattle.psy_kernel.proofs.engine.Engine.busy_from.Given as goal

abbrev pub invariant-idle : goal.invariant-idle
invariant-idle l = record {
  above : l.from ≤ l.processor;
  within : l.processor ≤ processors l.self.plan.unit;
  idle : (processor : ℕ) → l.from ≤ processor → processor < l.processor → IsIdleOn l.self processor;
}

abbrev pub decreases-idle : goal.decreases-idle
decreases-idle l = processors l.self.plan.unit - l.processor
