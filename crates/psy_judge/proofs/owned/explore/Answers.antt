-- What is left of the proof of `owned::explore`.
use Rattle.std.proofs.Common.{List, subst}
use Rattle.psy_code.specs.declared.instr.Instr.{Instr}
use Rattle.psy_judge.specs.Deciding.{owner_of}
use Rattle.psy_judge.specs.Walked.{ArePassedFrom}
use Rattle.psy_judge.proofs.OwnersReady.{explored_of}
use Rattle.psy_judge.proofs.owned.explore.Goals as goal

pub returns-clause-explored : goal.returns-clause-explored
returns-clause-explored c =
    let owner = owner_of c.args.whose in
    explored_of c.args.code.now owner c.args.starts.now c.in_ok-places.places c.settle.new.row c.requires.starts (subst (λ (is : List Instr). ArePassedFrom is c.args.starts.now c.in_ok-places.places) c.as_slice.ensures c.in_ok-places.ensures.places) (c.in_ok-settle.ensures.tops owner c.requires.starts) c.in_ok-settle.ensures.count c.in_ok-settle.ensures.small
