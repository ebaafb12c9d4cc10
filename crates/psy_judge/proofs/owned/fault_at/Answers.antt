-- What is left of the proof of `owned::fault_at`.
use Rattle.std.proofs.Common.{false, get_or, length, refl, sym, subst}
use Rattle.psy_flow.specs.Heights.{IsHeight}
use Rattle.psy_judge.specs.declared.heights.Top.{Top}
use Rattle.psy_judge.specs.Deciding.{owner_of}
use Rattle.psy_judge.specs.Highest.{IsSmall}
use Rattle.psy_judge.specs.Judged.{IsLeast}
use Rattle.psy_judge.specs.Judging.{IsEarlier, IsTop, KeepsFor}
use Rattle.psy_judge.proofs.CallsJudged.{top_is}
use Rattle.psy_judge.proofs.OwnersJudged.{Only, fault_there}
use Rattle.psy_judge.proofs.OwnersReady.{ends_tells}
use Rattle.psy_judge.proofs.TakenPlaces.{alone_tells}
use Rattle.psy_judge.proofs.owned.fault_at.Goals as goal

pub judge_at-first-requires-clause-top : goal.judge_at-first-requires-clause-top
judge_at-first-requires-clause-top c =
    subst (λ (t : Top). IsTop (IsHeight c.args.code.now (owner_of c.args.whose) c.args.place) t) (sym c.top_of-top.ensures)
    (top_is c.args.code.now (owner_of c.args.whose) c.args.row.now c.args.place c.requires.explored.1.tops c.requires.place)

pub judge_at-first-requires-clause-small : goal.judge_at-first-requires-clause-small
judge_at-first-requires-clause-small c = subst (λ (t : Top). IsSmall (length c.args.code.now.instrs) t) (sym c.top_of-top.ensures) (c.requires.explored.1.small c.args.place)

pub judge_at-first-requires-clause-alone : goal.judge_at-first-requires-clause-alone
judge_at-first-requires-clause-alone c =
    alone_tells c.args.code.now (IsEarlier c.args.code.now (owner_of c.args.whose)) c.args.taken.now c.args.place (get_or c.args.taken.now c.args.place false) c.requires.taken c.requires.place refl

pub judge_at-first-requires-clause-ends : goal.judge_at-first-requires-clause-ends
judge_at-first-requires-clause-ends c = ends_tells c.args.code.now.instrs c.args.ends.now c.args.place c.requires.ends

pub returns : goal.returns
returns c =
    let owner = owner_of c.args.whose in
    subst (λ f. IsLeast (Only c.args.place (KeepsFor c.args.unit.now c.args.code.now (IsEarlier c.args.code.now owner) owner)) f) (sym c.fault_of.ensures)
    (fault_there (KeepsFor c.args.unit.now c.args.code.now (IsEarlier c.args.code.now owner) owner) c.args.place c.judge_at-first.result c.judge_at-first.ensures)
