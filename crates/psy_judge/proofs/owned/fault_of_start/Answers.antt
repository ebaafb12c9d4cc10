-- What is left of the proof of `owned::fault_of_start`.
use Rattle.std.proofs.Common.{arith}
use Rattle.psy_judge.proofs.OwnersJudged.{start_outside}
use Rattle.psy_judge.proofs.owned.fault_of_start.Goals as goal

pub returns : goal.returns
returns c = start_outside c.args.start c.args.count (omega (arith, c.if-start-count.false))
