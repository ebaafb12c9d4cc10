-- What each loop of `engine::stretch::stretch` keeps.
use Rattle.std.proofs.Common.{◌≡◌, ◌-◌, ◌≤◌}
use Rattle.psy_kernel.proofs.Bursts.{AreKept}
use Rattle.psy_kernel.proofs.Stretched.{Begins, ChargesOf}
use Rattle.psy_kernel.proofs.engine.stretch.stretch.Given as goal

abbrev pub invariant-parts : goal.invariant-parts
invariant-parts l = record {
  within : l.cycles ≤ l.most;
  kept : AreKept (Begins l.fn.runner.charge) l.plan l.start l.date l.most l.fn.runner.machine l.fn.eyes l.fn.reaches.items l.cycles l.runner.machine l.eyes l.reaches.items;
  charged : ChargesOf l.plan l.start l.date l.most l.fn.runner.machine l.fn.eyes l.fn.runner.charge l.cycles l.runner.charge;
  figure : l.runner.figure ≡ l.fn.runner.figure;
}

abbrev pub decreases-parts : goal.decreases-parts
decreases-parts l = l.most - l.cycles
