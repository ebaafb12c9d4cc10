-- What is left of the proof of `heights::clear`.
use Rattle.std.proofs.Common.{◌+◌, ◌<◌, get_or, length, sym, subst, arith}
use Rattle.std.proofs.lemmas.List.Elements.{Contains-get_or}
use Rattle.psy_judge.proofs.RowsTaken.{IsLeft, left_first, left_more, left_none}
use Rattle.psy_judge.proofs.heights.clear.Goals as goal

pub places-init : goal.places-init
places-init c = left_first (length c.args.code.now.instrs) c.args.places.now c.args.row.now c.requires.count c.requires.listed

pub set-requires : goal.set-requires
set-requires c =
    omega (arith, c.places.invariant.size, c.requires.inside (get_or c.args.places.now c.places.place-index 0) (Contains-get_or c.args.places.now c.places.place-index 0 c.places-test.true))

pub places-preserved : goal.places-preserved
places-preserved c =
    let inside : get_or c.args.places.now c.places.place-index 0 < length c.places.row =
    omega (arith, c.places.invariant.size, c.requires.inside (get_or c.args.places.now c.places.place-index 0) (Contains-get_or c.args.places.now c.places.place-index 0 c.places-test.true)) in
    subst (IsLeft (length c.args.code.now.instrs) c.args.places.now (c.places.place-index + 1)) (sym c.set.ensures)
    (left_more (length c.args.code.now.instrs) c.args.places.now c.places.place-index c.places.row c.places.invariant inside)

pub returns : goal.returns
returns c = left_none (length c.args.code.now.instrs) c.args.places.now c.places.place-index c.places.row c.places.invariant c.places-test.false
