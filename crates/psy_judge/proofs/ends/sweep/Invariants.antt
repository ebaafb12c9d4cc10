-- What each loop of `ends::sweep` keeps.
use Rattle.std.proofs.Common.{◌≤◌}
use Rattle.psy_judge.specs.Ending.{IsFoundEnd}
use Rattle.psy_judge.specs.Walked.{unmarked}
use Rattle.psy_judge.proofs.ends.sweep.Given as goal

abbrev pub invariant-places : goal.invariant-places
invariant-places l = record {
  found : IsFoundEnd l.instrs l.marks;
  room : unmarked l.marks ≤ unmarked l.fn.marks;
}
