-- What is left of the proof of `settles::settle_all`.
use Rattle.std.proofs.Common.{◌≡◌, ◌<◌, ◌≢◌, false, length, get_or, Some, sym, ap, ◌∙◌, arith}
use Rattle.std.proofs.lemmas.Bool.{cond-false}
use Rattle.std.proofs.lemmas.Option.{slice_get-get_or, slice_get_within}
use Rattle.psy_meaning.specs.Timing.{first_date}
use Rattle.psy_tree.specs.Parts.{no_stream, stream_at}
use Rattle.psy_dates.specs.declared.seat.Phase.TheVariants as phase
use Rattle.psy_dates.specs.Messages.{nowhere, sweeps_by}
use Rattle.psy_dates.specs.Movers.{moves_by, moves_in}
use Rattle.psy_dates.specs.Moves.{timing_in}
use Rattle.psy_dates.proofs.lemmas.Moving.{moves_of, sweeps_not}
use Rattle.psy_dates.proofs.lemmas.Names.{names_none}
use Rattle.psy_dates.proofs.settles.settle_all.Goals as goal

pub returns-else-not-is_empty : goal.returns-else-not-is_empty
returns-else-not-is_empty c stream queue at =
    let plan = c.args.plan.now in
    let date = c.args.date in
    let seats = c.args.seats.now in
    let receiver = (stream_at plan.unit stream).receiver in
    let first = first_date (timing_in plan receiver) in
    let among : stream < length plan.unit.streams = omega (arith, slice_get_within c.args.queues.now stream queue at, c.requires.queued) in
    let known : receiver < length seats = omega (arith, (c.requires.bare.streams stream no_stream among).receiver, c.requires.seated) in
    let empty : length c.args.movers.now ≡ 0 = grind (arith, c.if-not-is_empty.false, c.is_empty.ensures) in
    let seat = get_or seats receiver nowhere in
    let here = slice_get-get_or seats receiver nowhere known in
    let still : moves_by date first seat seat.phase ≡ false = sym (moves_of plan date seats receiver seat here) ∙ names_none (moves_in plan date seats) (length seats) c.args.movers.now empty c.requires.movers receiver known in
    let loud : seat.phase ≢ phase.Silent = (c.requires.stopped c.if-stopped.false receiver seat here).1 in
    at ∙ ap Some (sym (cond-false (sweeps_by date first seat seat.phase) _ _ (sweeps_not date first seat seat.phase loud still)))
