-- What each loop of `ends::ending` keeps.
use Rattle.psy_judge.specs.Ending.{IsFoundEnd}
use Rattle.psy_judge.specs.Walked.{unmarked}
use Rattle.psy_judge.proofs.ends.ending.Given as goal

abbrev pub invariant-passes : goal.invariant-passes
invariant-passes l = IsFoundEnd l.instrs l.marks

abbrev pub decreases-passes : goal.decreases-passes
decreases-passes l = unmarked l.marks
