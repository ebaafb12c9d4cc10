-- What is left of the proof of `owned::fault_of_places`.
use Rattle.std.proofs.Common.{◌+◌, get_or, take, sym, subst}
use Rattle.std.proofs.lemmas.List.Elements.{Contains-get_or}
use Rattle.psy_judge.specs.Deciding.{owner_of}
use Rattle.psy_judge.specs.Judged.{IsLeast}
use Rattle.psy_judge.specs.Judging.{IsEarlier, KeepsFor}
use Rattle.psy_judge.proofs.OwnersJudged.{Among, among_none, front_all, front_more}
use Rattle.psy_judge.proofs.owned.fault_of_places.Goals as goal

pub places-init : goal.places-init
places-init c = among_none (KeepsFor c.args.unit.now c.args.code.now (IsEarlier c.args.code.now (owner_of c.args.whose)) (owner_of c.args.whose))

pub fault_at-requires-clause-place : goal.fault_at-requires-clause-place
fault_at-requires-clause-place c =
    let k = c.places.place-index in
    ((c.requires.explored.reached (get_or c.args.places.now k 0)).0 (Contains-get_or c.args.places.now k 0 c.places-test.true)).0

pub fault_at-requires-clause-reached : goal.fault_at-requires-clause-reached
fault_at-requires-clause-reached c =
    let k = c.places.place-index in
    ((c.requires.explored.reached (get_or c.args.places.now k 0)).0 (Contains-get_or c.args.places.now k 0 c.places-test.true)).1

pub fault_at-requires-clause-explored : goal.fault_at-requires-clause-explored
fault_at-requires-clause-explored c = (c.args.places.now, c.requires.explored)

pub places-preserved : goal.places-preserved
places-preserved c =
    subst (λ f. IsLeast (Among (take (c.places.place-index + 1) c.args.places.now) (KeepsFor c.args.unit.now c.args.code.now (IsEarlier c.args.code.now (owner_of c.args.whose)) (owner_of c.args.whose))) f) (sym c.lesser-least.ensures)
    (front_more (KeepsFor c.args.unit.now c.args.code.now (IsEarlier c.args.code.now (owner_of c.args.whose)) (owner_of c.args.whose)) c.args.places.now c.places.place-index c.places.least c.fault_at.result c.places-test.true
    c.places.invariant c.fault_at.ensures)

pub returns : goal.returns
returns c =
    front_all (KeepsFor c.args.unit.now c.args.code.now (IsEarlier c.args.code.now (owner_of c.args.whose)) (owner_of c.args.whose)) c.args.places.now c.places.place-index c.places.least c.places-test.false c.places.invariant
