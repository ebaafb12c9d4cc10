-- What is left of the proof of `walked::unmark`.
use Rattle.std.proofs.Common.{◌<◌, ◌+◌, get_or, length, sym, subst, arith}
use Rattle.psy_judge.proofs.PlacesMet.{AreLeft, left_all, left_less, left_none}
use Rattle.psy_judge.proofs.walked.unmark.Goals as goal

pub places-init : goal.places-init
places-init c = left_all c.args.marks.now c.args.places.now c.requires.listed

pub set-requires : goal.set-requires
set-requires c = omega (arith, c.requires.inside c.places.place-index 0 c.places-test.true, c.places.invariant.count)

pub places-preserved : goal.places-preserved
places-preserved c =
    let inside : get_or c.args.places.now c.places.place-index 0 < length c.places.marks = omega (arith, c.requires.inside c.places.place-index 0 c.places-test.true, c.places.invariant.count) in
    subst (λ ms. AreLeft c.args.marks.now ms c.args.places.now (c.places.place-index + 1)) (sym c.set.ensures)
    (left_less c.args.marks.now c.places.marks c.args.places.now c.places.place-index inside c.places.invariant)

pub returns : goal.returns
returns c = left_none c.args.marks.now c.places.marks c.args.places.now c.places.place-index c.places-test.false c.places.invariant
