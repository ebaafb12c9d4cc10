-- What each loop of `engine::stretch::burst` keeps.
use Rattle.std.proofs.Common.{◌-◌, ◌≤◌}
use Rattle.psy_kernel.proofs.Bursts.{AreKept, Pays}
use Rattle.psy_kernel.proofs.engine.stretch.burst.Given as goal

abbrev pub invariant-steps : goal.invariant-steps
invariant-steps l = record {
  within : l.count ≤ l.most;
  kept : AreKept (Pays l.most) l.plan l.start l.date l.most l.fn.machine l.fn.eyes l.fn.reaches.items l.count l.machine l.eyes l.reaches.items;
}

abbrev pub decreases-steps : goal.decreases-steps
decreases-steps l = l.most - l.count
