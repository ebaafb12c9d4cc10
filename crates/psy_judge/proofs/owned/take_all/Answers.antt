-- What is left of the proof of `owned::take_all`.
use Rattle.std.proofs.Common.{◌+◌, ◌<◌, ◌∙◌, get_or, length, sym, subst, arith}
use Rattle.std.proofs.lemmas.List.Elements.{Contains-get_or}
use Rattle.psy_judge.proofs.TakenPlaces.{AreTakenTo, taken_all, taken_first, taken_more}
use Rattle.psy_judge.proofs.owned.take_all.Goals as goal

pub places-init : goal.places-init
places-init c = taken_first c.args.places.now c.args.taken.now

pub set-requires : goal.set-requires
set-requires c =
    omega (arith, c.places.invariant.size, c.requires.size, c.requires.inside (get_or c.args.places.now c.places.place-index 0) (Contains-get_or c.args.places.now c.places.place-index 0 c.places-test.true))

pub places-preserved : goal.places-preserved
places-preserved c =
    let inside : get_or c.args.places.now c.places.place-index 0 < length c.places.taken =
    omega (arith, c.places.invariant.size, c.requires.size, c.requires.inside (get_or c.args.places.now c.places.place-index 0) (Contains-get_or c.args.places.now c.places.place-index 0 c.places-test.true)) in
    subst (AreTakenTo c.args.places.now c.args.taken.now (c.places.place-index + 1)) (sym c.set.ensures)
    (taken_more c.args.places.now c.args.taken.now c.places.place-index c.places.taken c.places.invariant c.places-test.true inside)

pub returns-clause-size : goal.returns-clause-size
returns-clause-size c = c.places.invariant.size ∙ c.requires.size

pub returns-clause-each : goal.returns-clause-each
returns-clause-each c place less = taken_all c.args.places.now c.args.taken.now c.places.place-index c.places.taken c.places.invariant c.places-test.false place
