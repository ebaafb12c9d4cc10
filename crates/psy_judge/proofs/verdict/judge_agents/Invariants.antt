-- What each loop of `verdict::judge_agents` keeps.
use Rattle.std.proofs.Common.{length}
use Rattle.psy_judge.specs.Judged.{IsLeast}
use Rattle.psy_judge.specs.Judging.{IsDone, KeptBy}
use Rattle.psy_judge.specs.Owned.{IsReady}
use Rattle.psy_judge.proofs.verdict.judge_agents.Given as goal

abbrev pub invariant-agents : goal.invariant-agents
invariant-agents l = record {
  ready : IsReady l.code (IsDone (length l.code.functions) l.number) l.marks l.taken l.row;
  least : IsLeast (KeptBy l.unit l.code (IsDone (length l.code.functions) l.number)) l.least;
}
