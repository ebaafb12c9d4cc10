-- What is left of the proof of `clears::clear_outboxes`.
use Rattle.std.proofs.Common.{◌<◌, [], length, get_or, ap, ◌∙◌, arith, slice_set}
use Rattle.std.specs.Prelude.{if◌then◌else◌}
use Rattle.std.proofs.lemmas.Bool.{cond-false}
use Rattle.std.proofs.lemmas.Option.{slice_get-get_or, slice_get_within}
use Rattle.psy_dates.specs.Movers.{ends_in}
use Rattle.psy_dates.specs.Outboxes.{Outboxed}
use Rattle.psy_dates.proofs.lemmas.Placed.{walk_done, walk_on}
use Rattle.psy_dates.proofs.clears.clear_outboxes.Goals as goal

pub movers-preserved : goal.movers-preserved
movers-preserved c =
    let date = c.args.date in
    let seats = c.args.seats.now in
    let names = c.args.movers.now in
    let old = c.args.outboxes.now in
    let agent = get_or names c.movers.place 0 in
    let within : agent < length c.movers.outboxes = omega (arith, c.requires.known c.movers.place 0 c.movers-test.true, c.movers.invariant.done.count) in
    let outbox = get_or c.movers.outboxes agent c.index-outboxes-agent.result in
    walk_on (ends_in date seats) (λ k (o : Outboxed). if ends_in date seats k then record o { sends = [] } else o) (length old) names old (λ k o at e. cond-false (ends_in date seats k) _ _ e) c.movers.place c.movers.outboxes _ outbox c.movers-test.true c.movers.invariant
    (slice_get-get_or c.movers.outboxes agent c.index-outboxes-agent.result within) (ap (slice_set c.movers.outboxes agent) (c.clear.ensures ∙ ap (λ b. if b then record outbox { sends = [] } else outbox) c.ends_there.ensures))

pub returns : goal.returns
returns c agent outbox at =
    let date = c.args.date in
    let seats = c.args.seats.now in
    let old = c.args.outboxes.now in
    let done = walk_done (ends_in date seats) (λ k (o : Outboxed). if ends_in date seats k then record o { sends = [] } else o) (length old) c.args.movers.now old (λ k o at e. cond-false (ends_in date seats k) _ _ e) c.movers.place c.movers.outboxes c.movers-test.false c.movers.invariant in
    done.done agent outbox (slice_get_within old agent outbox at) at
