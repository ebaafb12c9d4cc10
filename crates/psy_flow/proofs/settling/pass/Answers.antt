-- What is left of the proof of `settling::pass`.
use Rattle.std.proofs.Common.{ℕ, List, get_or, ap, arith}
use Rattle.std.proofs.lemmas.List.Elements.{Contains-get_or}
use Rattle.psy_flow.specs.Worths.{worth_at}
use Rattle.psy_flow.proofs.PassRows.{all_settled, passing_more, passing_none, place_inside, room_there, visited_found}
use Rattle.psy_flow.proofs.WorthCells.{IsRaised, beyond_found, raised}
use Rattle.psy_flow.proofs.settling.pass.Goals as goal

pub places-init : goal.places-init
places-init c = passing_none c.args.quest c.args.instrs.now c.args.places.now c.args.most c.args.row.now c.requires.count c.requires.found c.requires.small

pub raise-rose-requires-clause-place : goal.raise-rose-requires-clause-place
raise-rose-requires-clause-place c = place_inside c.args.quest c.args.instrs.now c.args.from c.args.places.now c.args.most c.requires.passed c.requires.inside c.places.place-index c.places-test.true

pub raise-rose-requires-clause-room : goal.raise-rose-requires-clause-room
raise-rose-requires-clause-room c =
    omega (arith, c.requires.few, room_there c.args.quest c.args.instrs.now c.args.from c.args.places.now c.args.most c.requires.passed c.requires.inside c.places.row c.places.invariant.small c.places.place-index c.places-test.true)

pub returns-then-cell-most-clause-found : goal.returns-then-cell-most-clause-found
returns-then-cell-most-clause-found c =
    let quest = c.args.quest in
    let instrs = c.args.instrs.now in
    let places = c.args.places.now in
    let k = c.places.place-index in
    let row = c.places.row in
    let after = c.raise-rose.new.row in
    let place : ℕ = get_or places k 0 in
    let within = place_inside quest instrs c.args.from places c.args.most c.requires.passed c.requires.inside k c.places-test.true in
    let is : IsRaised c.args.most row after place (worth_at quest instrs row place) c.raise-rose.result =
    raised c.args.most row after place (worth_at quest instrs row place) c.raise-rose.result (omega (arith, within, c.places.invariant.count)) c.raise-rose.ensures.rose c.raise-rose.ensures.row in
    visited_found quest instrs c.args.from places c.args.most c.requires.passed c.args.row.now row after c.places.rose c.raise-rose.result k c.requires.inside c.places-test.true c.places.invariant is

pub returns-then-cell-most-clause-course : goal.returns-then-cell-most-clause-course
returns-then-cell-most-clause-course c =
    let quest = c.args.quest in
    let instrs = c.args.instrs.now in
    let places = c.args.places.now in
    let k = c.places.place-index in
    let row = c.places.row in
    let after = c.raise-rose.new.row in
    let place : ℕ = get_or places k 0 in
    let within = place_inside quest instrs c.args.from places c.args.most c.requires.passed c.requires.inside k c.places-test.true in
    let is : IsRaised c.args.most row after place (worth_at quest instrs row place) c.raise-rose.result =
    raised c.args.most row after place (worth_at quest instrs row place) c.raise-rose.result (omega (arith, within, c.places.invariant.count)) c.raise-rose.ensures.rose c.raise-rose.ensures.row in
    let found = visited_found quest instrs c.args.from places c.args.most c.requires.passed c.args.row.now row after c.places.rose c.raise-rose.result k c.requires.inside c.places-test.true c.places.invariant is in
    beyond_found instrs quest places c.args.most after place found (Contains-get_or places k 0 c.places-test.true)
    (omega (arith, c.if-cell-most.true, c.cell.ensures, ap (λ (r : List ℕ). get_or r place 0) c.as_slice.ensures))

pub places-preserved : goal.places-preserved
places-preserved c =
    let quest = c.args.quest in
    let instrs = c.args.instrs.now in
    let places = c.args.places.now in
    let k = c.places.place-index in
    let row = c.places.row in
    let after = c.raise-rose.new.row in
    let place : ℕ = get_or places k 0 in
    let within = place_inside quest instrs c.args.from places c.args.most c.requires.passed c.requires.inside k c.places-test.true in
    let is : IsRaised c.args.most row after place (worth_at quest instrs row place) c.raise-rose.result =
    raised c.args.most row after place (worth_at quest instrs row place) c.raise-rose.result (omega (arith, within, c.places.invariant.count)) c.raise-rose.ensures.rose c.raise-rose.ensures.row in
    passing_more quest instrs c.args.from places c.args.most c.requires.passed c.args.row.now row after c.places.rose c.raise-rose.result k c.requires.inside c.places-test.true c.places.invariant is
    (omega (arith, c.if-cell-most.false, c.cell.ensures, ap (λ (r : List ℕ). get_or r place 0) c.as_slice.ensures))

pub returns-clause-course : goal.returns-clause-course
returns-clause-course c =
    all_settled c.args.quest c.args.instrs.now c.args.places.now c.places.row c.places.place-index c.places-test.false (c.places.invariant.settled c.if-rose.false)
