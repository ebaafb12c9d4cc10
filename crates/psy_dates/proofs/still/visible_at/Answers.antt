-- What is left of the proof of `still::visible_at`.
use Rattle.std.proofs.Common.{arith}
use Rattle.std.proofs.lemmas.Option.{slice_get_within}
use Rattle.psy_dates.proofs.ShownFrom.{none_earlier}
use Rattle.psy_dates.proofs.still.visible_at.Goals as goal

pub returns-then-place-held-clause-least : goal.returns-then-place-held-clause-least
returns-then-place-held-clause-least c k m from at =
    none_earlier c.args.queue.now.messages c.held-held.ensures.order c.args.place k c.message.result m from c.message.ensures at

pub returns-else-place-held-clause-least : goal.returns-else-place-held-clause-least
returns-else-place-held-clause-least c k m from at =
    absurd (omega (arith, slice_get_within c.args.queue.now.messages k m at, from, c.if-place-held.false, c.held-held.ensures.number))
