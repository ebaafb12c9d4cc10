-- What each loop of `engine::Engine::go_to` keeps.
use Rattle.std.proofs.Common.{◌≡◌, ◌-◌, ◌≤◌, slice_set}
use Rattle.psy_kernel.specs.Engines.{done_on}
use Rattle.psy_kernel.proofs.engine.Engine.go_to.Given as goal

abbrev pub invariant-parts : goal.invariant-parts
invariant-parts l = record {
  kept : l.self ≡ record l.fn.self { done = slice_set l.fn.self.done l.processor (done_on l.self l.processor) };
  below : done_on l.self l.processor ≤ l.end;
}

abbrev pub decreases-parts : goal.decreases-parts
decreases-parts l = l.end - done_on l.self l.processor
