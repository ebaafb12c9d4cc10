-- What is left of the proof of `queues::queue`.
use Rattle.std.proofs.Common.{◌≡◌, true, refl, sym, ◌∙◌, inr, arith, rules}
use Rattle.psy_meaning.specs.KnownWays.{Listed, is_sent}
use Rattle.psy_sizes.proofs.QueueOf.{size_of_some}
use Rattle.psy_sizes.proofs.queues.queue.Goals as goal

pub returns-then-size-from-clause-cause : goal.returns-then-size-from-clause-cause
returns-then-size-from-clause-cause c =
    let ways = c.args.ways.now in
    let size = c.in_ok-size.size in
    let (window, is, least, cut) = c.top-top.ensures in
    let loud : c.is_sent.result ≡ true = search rules in
    let sent : is_sent (Listed ways) c.args.stream ≡ true = sym c.is_sent.ensures ∙ loud in
    inr (inr (refl, c.in_ok-size.ensures.counted, size, size_of_some c.args.unit.now (Listed ways) ways.nexts c.args.stream window size sent is (c.in_ok-size.ensures.spreads window is), omega (arith, c.if-size-from.true, c.from.ensures)))

pub returns-clause-queue : goal.returns-clause-queue
returns-clause-queue c =
    let ways = c.args.ways.now in
    let size = c.in_ok-size.size in
    let (window, is, least, cut) = c.top-top.ensures in
    let loud : c.is_sent.result ≡ true = search rules in
    let sent : is_sent (Listed ways) c.args.stream ≡ true = sym c.is_sent.ensures ∙ loud in
    record {
      counted = c.in_ok-size.ensures.counted;
      is_size = size_of_some c.args.unit.now (Listed ways) ways.nexts c.args.stream window size sent is (c.in_ok-size.ensures.spreads window is);
      small = omega (arith, c.if-size-from.false, c.from.ensures);
    }
