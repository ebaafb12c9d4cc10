-- What is left of the proof of `outboxes::sends_between`.
use Rattle.std.proofs.Common.{◌≡◌, refl, subst, arith}
use Rattle.psy_meaning.specs.KnownWays.{Listed}
use Rattle.psy_meaning.specs.QueueSizes.{AreSendsBelow}
use Rattle.psy_sizes.proofs.OutboxesOf.{sends_more}
use Rattle.psy_sizes.proofs.outboxes.sends_between.Goals as goal

pub most-requires-clause-cut : goal.most-requires-clause-cut
most-requires-clause-cut c = c.requires.cut c.args.from

pub streams-preserved : goal.streams-preserved
streams-preserved c = record {
  sums = sends_more (Listed c.args.ways.now) c.args.agent c.args.from c.args.to c.streams.stream c.streams.sum c.most.result _ c.streams.invariant.sums c.most.ensures.most refl;
  small = omega (arith, c.streams.invariant.small, c.most.ensures.small);
}

pub returns : goal.returns
returns c =
    let all : c.streams.stream ≡ c.args.streams = omega (arith, c.streams-test.false, c.streams.auto.stream-end) in
    subst (λ k. AreSendsBelow (Listed c.args.ways.now) c.args.agent c.args.from c.args.to k c.streams.sum) all c.streams.invariant.sums
