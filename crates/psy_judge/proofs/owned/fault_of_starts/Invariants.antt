-- What each loop of `owned::fault_of_starts` keeps.
use Rattle.std.proofs.Common.{take}
use Rattle.psy_judge.specs.Judged.{IsLeast}
use Rattle.psy_judge.proofs.OwnersJudged.{Among, StartsIn}
use Rattle.psy_judge.proofs.owned.fault_of_starts.Given as goal

abbrev pub invariant-starts : goal.invariant-starts
invariant-starts l = IsLeast (Among (take l.start-index l.starts) (StartsIn l.count)) l.least
