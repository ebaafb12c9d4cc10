-- What is left of the proof of `outboxes::most_among`.
use Rattle.std.proofs.Common.{◌+◌, take, get_or, sym, ◌∙◌, subst}
use Rattle.std.proofs.lemmas.List.{take_all}
use Rattle.psy_base.specs.Extremes.{IsMost}
use Rattle.psy_meaning.specs.KnownWays.{Listed, Ways}
use Rattle.psy_meaning.specs.QueueSizes.{AreSendsBelow}
use Rattle.psy_sizes.specs.Sending.{HasSendsAmong}
use Rattle.psy_sizes.proofs.OutboxesOf.{next_more, no_next, sends_most}
use Rattle.psy_sizes.proofs.Passed.{most_max}
use Rattle.psy_sizes.proofs.outboxes.most_among.Goals as goal

pub nexts-init : goal.nexts-init
nexts-init c = no_next (Listed c.args.ways.now) c.args.agent c.args.streams c.args.from

pub nexts-preserved : goal.nexts-preserved
nexts-preserved c =
    let ways : Ways = Listed c.args.ways.now in
    let agent = c.args.agent in
    let nexts = c.args.nexts.now in
    let from = c.args.from in
    let streams = c.args.streams in
    let i = c.nexts.to-index in
    let to = get_or nexts i 0 in
    most_max (HasSendsAmong ways agent streams from (take i nexts)) (AreSendsBelow ways agent from to streams) (HasSendsAmong ways agent streams from (take (i + 1) nexts)) c.nexts.greatest c.sends_between.result c.max-greatest.result c.max-greatest.ensures
    c.nexts.invariant (sends_most ways agent (λ a b stream n m is also. sym is ∙ also) from to streams c.sends_between.result c.sends_between.ensures) (next_more ways agent streams from nexts i 0 c.nexts-test.true)

pub returns : goal.returns
returns c = subst (λ xs. IsMost (HasSendsAmong (Listed c.args.ways.now) c.args.agent c.args.streams c.args.from xs) c.nexts.greatest) (take_all c.nexts.to-index c.args.nexts.now c.nexts-test.false) c.nexts.invariant
