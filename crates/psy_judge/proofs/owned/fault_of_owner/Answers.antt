-- What is left of the proof of `owned::fault_of_owner`.
use Rattle.std.proofs.Common.{sym, subst}
use Rattle.psy_judge.specs.Deciding.{owner_of}
use Rattle.psy_judge.specs.Judged.{IsLeast}
use Rattle.psy_judge.specs.Judging.{IsEarlier, KeepsFor}
use Rattle.psy_judge.proofs.OwnersJudged.{Among, StartsIn, owner_least}
use Rattle.psy_judge.proofs.owned.fault_of_owner.Goals as goal

pub returns : goal.returns
returns c =
    let code = c.args.code.now in
    let owner = owner_of c.args.whose in
    subst (λ f. IsLeast (KeepsFor c.args.unit.now code (IsEarlier code owner) owner) f) (sym c.lesser.ensures)
    (owner_least c.args.unit.now code owner c.args.starts.now c.args.places.now c.requires.starts c.requires.explored.reached c.fault_of_starts-begun.result c.fault_of_places-passed.result
    (subst (λ n. IsLeast (Among c.args.starts.now (StartsIn n)) c.fault_of_starts-begun.result) c.len.ensures c.fault_of_starts-begun.ensures) c.fault_of_places-passed.ensures)
