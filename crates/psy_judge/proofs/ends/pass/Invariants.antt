-- What each loop of `ends::pass` keeps.
use Rattle.std.proofs.Common.{◌≤◌}
use Rattle.psy_judge.specs.Ending.{IsFoundEnd, IsPass}
use Rattle.psy_judge.proofs.ends.pass.Given as goal

abbrev pub invariant-places : goal.invariant-places
invariant-places l = record {
  found : IsFoundEnd l.instrs l.marks;
  pass : IsPass l.instrs (λ q. l.place ≤ q) l.fn.marks l.marks l.more;
}
