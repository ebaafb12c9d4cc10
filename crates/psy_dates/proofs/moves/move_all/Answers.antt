-- What is left of the proof of `moves::move_all`.
use Rattle.std.proofs.Common.{◌≡◌, ◌<◌, length, get_or, sym, ap, subst, ◌∙◌, arith, slice_set}
use Rattle.std.proofs.lemmas.Option.{get_or_from_slice_get, slice_get-get_or, slice_get_within}
use Rattle.psy_dates.specs.Messages.{nowhere}
use Rattle.psy_dates.specs.Movers.{moves_in}
use Rattle.psy_dates.specs.Moves.{IsNumbered, seat_then, timing_in}
use Rattle.psy_dates.proofs.lemmas.Moving.{seat_still}
use Rattle.psy_dates.proofs.lemmas.Placed.{walk_at, walk_done, walk_on}
use Rattle.psy_dates.proofs.moves.move_all.Goals as goal

pub moved-requires-clause-numbered : goal.moved-requires-clause-numbered
moved-requires-clause-numbered c =
    let plan = c.args.plan.now in
    let seats = c.args.seats.now in
    let names = c.args.movers.now in
    let agent = get_or names c.movers.place 0 in
    let within : agent < length seats = c.requires.known c.movers.place 0 c.movers-test.true in
    let same = walk_at (moves_in plan c.args.date seats) (λ k. seat_then (timing_in plan k) c.args.date) (length seats) names seats c.movers.place c.movers.seats c.movers-test.true c.movers.invariant in
    let is : get_or c.movers.seats agent nowhere ≡ get_or seats agent nowhere = get_or_from_slice_get c.movers.seats agent (get_or seats agent nowhere) nowhere (same ∙ slice_get-get_or seats agent nowhere within) in
    subst IsNumbered (sym is) (c.requires.numbered agent nowhere within)

pub movers-preserved : goal.movers-preserved
movers-preserved c =
    let plan = c.args.plan.now in
    let seats = c.args.seats.now in
    let names = c.args.movers.now in
    let agent = get_or names c.movers.place 0 in
    let within : agent < length c.movers.seats = omega (arith, c.requires.known c.movers.place 0 c.movers-test.true, c.movers.invariant.done.count) in
    let seat = get_or c.movers.seats agent nowhere in
    walk_on (moves_in plan c.args.date seats) (λ k. seat_then (timing_in plan k) c.args.date) (length seats) names seats (seat_still plan c.args.date seats) c.movers.place c.movers.seats _ seat c.movers-test.true c.movers.invariant
    (slice_get-get_or c.movers.seats agent nowhere within) (ap (slice_set c.movers.seats agent) c.moved.ensures)

pub returns : goal.returns
returns c agent seat at =
    let plan = c.args.plan.now in
    let seats = c.args.seats.now in
    let done = walk_done (moves_in plan c.args.date seats) (λ k. seat_then (timing_in plan k) c.args.date) (length seats) c.args.movers.now seats (seat_still plan c.args.date seats) c.movers.place c.movers.seats c.movers-test.false c.movers.invariant in
    done.done agent seat (slice_get_within seats agent seat at) at
