-- What each loop of `verdict::judge_functions` keeps.
use Rattle.psy_judge.specs.Judged.{IsLeast}
use Rattle.psy_judge.specs.Judging.{AreNeeds, IsDone, KeptBy}
use Rattle.psy_judge.specs.Owned.{IsReady}
use Rattle.psy_judge.proofs.verdict.judge_functions.Given as goal

abbrev pub invariant-functions : goal.invariant-functions
invariant-functions l = record {
  ready : IsReady l.code (IsDone l.number 0) l.marks l.taken l.row;
  needs : AreNeeds l.code l.number l.needs;
  least : IsLeast (KeptBy l.unit l.code (IsDone l.number 0)) l.least;
}
