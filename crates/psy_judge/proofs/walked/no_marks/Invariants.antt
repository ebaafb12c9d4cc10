-- What each loop of `walked::no_marks` keeps.
use Rattle.std.proofs.Common.{◌≡◌, false, replicate}
use Rattle.psy_judge.proofs.walked.no_marks.Given as goal

abbrev pub invariant-loop : goal.invariant-loop
invariant-loop l = l.marks ≡ replicate l.counter false
