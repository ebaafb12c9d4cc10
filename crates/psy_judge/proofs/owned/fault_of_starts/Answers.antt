-- What is left of the proof of `owned::fault_of_starts`.
use Rattle.std.proofs.Common.{◌+◌, take, sym, subst}
use Rattle.psy_judge.specs.Judged.{IsLeast}
use Rattle.psy_judge.proofs.OwnersJudged.{Among, StartsIn, among_none, front_all, front_more}
use Rattle.psy_judge.proofs.owned.fault_of_starts.Goals as goal

pub starts-init : goal.starts-init
starts-init c = among_none (StartsIn c.args.count)

pub starts-preserved : goal.starts-preserved
starts-preserved c =
    subst (λ f. IsLeast (Among (take (c.starts.start-index + 1) c.args.starts.now) (StartsIn c.args.count)) f) (sym c.lesser-least.ensures)
    (front_more (StartsIn c.args.count) c.args.starts.now c.starts.start-index c.starts.least c.fault_of_start.result c.starts-test.true c.starts.invariant c.fault_of_start.ensures)

pub returns : goal.returns
returns c = front_all (StartsIn c.args.count) c.args.starts.now c.starts.start-index c.starts.least c.starts-test.false c.starts.invariant
